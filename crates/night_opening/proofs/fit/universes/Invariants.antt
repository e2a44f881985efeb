use Rattle.std.proofs.Common.{◌≡◌, true, take}
use Rattle.night_opening.specs.Fits.{have_numbers, universes}
use Rattle.night_opening.proofs.fit.universes.Given as goal

-- the universes so far, of which each has a number
abbrev pub invariant-loop-ordinal : goal.invariant-loop-ordinal
invariant-loop-ordinal l = record {
  found : l.universes.items ≡ universes l.base (take l.ordinal-index l.ordinals.items);
  numbered : have_numbers (universes l.base (take l.ordinal-index l.ordinals.items)) ≡ true;
}
