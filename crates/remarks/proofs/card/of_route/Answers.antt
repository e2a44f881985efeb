use Rattle.remarks.proofs.card.of_route.Goals as goal

pub returns : goal.returns
returns c = cc
