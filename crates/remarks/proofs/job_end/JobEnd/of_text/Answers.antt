use Rattle.remarks.proofs.job_end.JobEnd.of_text.Goals as goal

pub returns-in-Err : goal.returns-in-Err
returns-in-Err c = rw (c.if-is_refusal.false, c.in-Err.is) c.of_device.ensures
