use Rattle.remarks.proofs.card.of_refusal.Goals as goal

pub returns-in-Down : goal.returns-in-Down
returns-in-Down c = rw c.in-Down.is cc

pub returns-in-NoLink : goal.returns-in-NoLink
returns-in-NoLink c = rw c.in-NoLink.is cc
