use Rattle.std.proofs.Common.{Err, Ok, inr, subst}
use Rattle.night_opening.specs.Opening.{StartsBy}
use Rattle.night_opening.proofs.opening.open_night.Goals as goal

pub returns-in-Ok-clause-opens : goal.returns-in-Ok-clause-opens
returns-in-Ok-clause-opens g c = (
  _,
  c.in_ok-night.ensures.new,
  subst (λ text. StartsBy g.F.Fader.stands_for c.in_ok-night.night c.start.new.night
      c.args.bill.now c.args.opening.now text (Ok tt))
      c.text_in_record.ensures c.in-Ok.ensures.starts,
)

pub returns-in-Err-clause-opens : goal.returns-in-Err-clause-opens
returns-in-Err-clause-opens g c = inr (
  _,
  _,
  c.in_ok-night.ensures.new,
  subst (λ text. StartsBy g.F.Fader.stands_for c.in_ok-night.night c.start.new.night
      c.args.bill.now c.args.opening.now text (Err c.in-Err.fault))
      c.text_in_record.ensures c.in-Err.ensures.starts,
)
