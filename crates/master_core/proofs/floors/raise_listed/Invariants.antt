use Rattle.master_core.proofs.Terms.{◌≡◌, ℕ, ◌+◌, ◌*◌, ◌<◌, IsTrue, get_or, drop, length, max, nat_cmp}
use Rattle.master_core.proofs.Terms.{is_sorted, AreLevels}
use Rattle.master_core.proofs.Raised.{byte_in}
use Rattle.master_core.proofs.floors.raise_listed.Given as goal

-- the pairs that are left raise the levels to what all pairs make of them
abbrev pub invariant-loop-channel : goal.invariant-loop-channel
invariant-loop-channel l = record {
  sorted : IsTrue (is_sorted nat_cmp (drop l.channel-index l.pairs));
  raised : (place : ℕ) → place < length l.floors
      → max (get_or l.floors place 0) (byte_in (drop l.channel-index l.pairs) (place + 1) *
      l.master)
      ≡ max (get_or l.fn.floors place 0) (byte_in l.pairs (place + 1) * l.master);
  full : AreLevels l.floors;
}
