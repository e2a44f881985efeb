use Rattle.remarks.proofs.device.of_record.Goals as goal

pub returns-in-NotEmpty : goal.returns-in-NotEmpty
returns-in-NotEmpty c = rw c.in-NotEmpty.is c.device.ensures

pub returns-in-NoLocks : goal.returns-in-NoLocks
returns-in-NoLocks c = rw c.in-NoLocks.is c.device-in-NoLocks.ensures
