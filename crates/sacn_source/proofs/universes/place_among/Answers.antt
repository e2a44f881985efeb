use Rattle.std.proofs.Common.{sym, arith}
use Rattle.std.proofs.lemmas.Bool.Decides.{nat_tests}
use Rattle.sacn_source.proofs.Places.{not_there, there}
use Rattle.sacn_source.proofs.universes.place_among.Goals as goal

pub returns-then-is_empty : goal.returns-then-is_empty
returns-then-is_empty c =
    sym (not_there c.args.universes.now c.args.universe c.requires
    (λ k before e. grind (arith, nat_tests, c.is_empty.ensures)))

pub returns-then-universe-universes : goal.returns-then-universe-universes
returns-then-universe-universes c =
    sym (not_there c.args.universes.now c.args.universe c.requires
    (λ k before e. omega (arith, c.if-universe-universes.true, e)))

pub returns-then-place-universes : goal.returns-then-place-universes
returns-then-place-universes c =
    sym (there c.args.universes.now c.args.universe c.requires c.from-place.result
    c.if-place-universes.true
    (omega (arith, c.from-place.ensures, c.if-universe-universes.false)))

pub returns-else-place-universes : goal.returns-else-place-universes
returns-else-place-universes c =
    sym (not_there c.args.universes.now c.args.universe c.requires
    (λ k before e. omega (arith, c.from-place.ensures)))
