use Rattle.remarks.proofs.target.target_twice.Goals as goal

pub returns : goal.returns
returns c = cc
