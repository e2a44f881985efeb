use Rattle.remarks.proofs.target.no_universe.Goals as goal

pub returns : goal.returns
returns c = cc
