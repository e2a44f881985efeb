use Rattle.remarks.proofs.failure.of_standard.Goals as goal

pub returns-in-Some : goal.returns-in-Some
returns-in-Some c = rw c.in-Some.is c.of_device.ensures

pub returns-in-None : goal.returns-in-None
returns-in-None c = rw c.in-None.is c.plain.ensures
