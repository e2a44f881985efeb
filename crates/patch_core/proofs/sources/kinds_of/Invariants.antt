use Rattle.patch_core.proofs.Terms.{◌≡◌, ℕ, ◌*◌, ◌<◌, get_or, length, AreBytesOf, Mixed}
use Rattle.patch_core.proofs.sources.kinds_of.Given as goal

-- the kinds of the ordinals so far
abbrev pub invariant-loop-ordinal : goal.invariant-loop-ordinal
invariant-loop-ordinal l = record {
  each : length l.kinds.items ≡ l.ordinal;
  kinds : (k : ℕ) → k < l.ordinal → AreBytesOf (get_or l.kinds.items k Mixed) l.bytes (512 * k);
}
