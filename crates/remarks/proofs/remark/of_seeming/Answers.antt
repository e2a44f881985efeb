use Rattle.remarks.proofs.remark.of_seeming.Goals as goal

pub returns : goal.returns
returns c = cc
