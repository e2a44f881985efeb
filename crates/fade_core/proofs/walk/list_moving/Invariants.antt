use Rattle.std.proofs.Common.{◌≡◌, ℕ, ◌<◌, ◌≤◌, get_or}
use Rattle.fade_core.specs.Stepping.{AreChannels, IsUnlisted}
use Rattle.fade_core.proofs.walk.list_moving.Given as goal

-- the list so far has channels, and those below the place that it lacks have nowhere to go
abbrev pub invariant-loop-place : goal.invariant-loop-place
invariant-loop-place l = record {
  count_in : l.count ≤ l.place;
  listed : AreChannels l.moving l.count l.place;
  others : (k : ℕ) → k < l.place → IsUnlisted l.moving l.count k
      → get_or l.from k 0 ≡ get_or l.to k 0;
}
