use Rattle.std.proofs.Common.{◌≡◌, ◌≢◌, ℕ, ◌+◌, ◌<◌, ◌≤◌, get_or, length}
use Rattle.fade_core.specs.Share.{level_between}
use Rattle.fade_core.proofs.walk.bring.Given as goal

-- the channels that are not listed from the index on are moved
abbrev pub invariant-loop-index : goal.invariant-loop-index
invariant-loop-index l = (k : ℕ) → k < length l.levels
    → ((m : ℕ) → l.index ≤ m → m < l.count → get_or l.moving m 0 ≢ k + 1)
    → get_or l.levels k 0
    ≡ level_between (get_or l.from k 0) (get_or l.to k 0) l.shares.rising l.shares.falling
