use Rattle.std.proofs.Common.{◌∙◌, sym}
use Rattle.night_opening.proofs.Starting.{without_numbers}
use Rattle.night_opening.proofs.night_start.known_show.Goals as goal

pub returns-then-not-has_numbers-clause-fault : goal.returns-then-not-has_numbers-clause-fault
returns-then-not-has_numbers-clause-fault c =
    without_numbers c.args.night.now c.in_ok-loaded.loaded.show c.in_ok-loaded.ensures.faultless
    c.in_ok-loaded.ensures.show (sym c.has_numbers.ensures ∙ c.if-not-has_numbers.true)
