use Rattle.remarks.proofs.listening.at_address.Goals as goal

pub returns : goal.returns
returns c = cc
