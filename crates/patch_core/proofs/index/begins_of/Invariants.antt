use Rattle.patch_core.proofs.Terms.{◌≡◌, ℕ, ◌+◌, ◌<◌, get_or, length, IsBegin}
use Rattle.patch_core.proofs.index.begins_of.Given as goal

-- the places of the channels so far
abbrev pub invariant-loop-channel : goal.invariant-loop-channel
invariant-loop-channel l = record {
  each : length l.begins.items + 1 ≡ l.channel;
  places : (c : ℕ) → c + 1 < l.channel → IsBegin l.sorted (c + 1) (get_or l.begins.items c 0);
}
