use Rattle.std.proofs.Common.{◌≡◌, ℕ, ◌<◌, get_or}
use Rattle.fade_core.specs.Digits.{share_by}
use Rattle.fade_core.specs.Share.{level_between}
use Rattle.fade_core.proofs.walk.walk.Given as goal

-- the channels so far are moved
abbrev pub invariant-loop-place : goal.invariant-loop-place
invariant-loop-place l = (k : ℕ) → k < l.place → get_or l.levels k 0
    ≡ level_between (get_or l.from k 0) (get_or l.to k 0) (share_by l.rising) (share_by l.falling)
