use Rattle.desk_core.proofs.Terms.{◌≡◌, ◌<◌, ℕ, Bool, List, get_or, max, AreLevels, Tables, Move}
use Rattle.desk_core.proofs.Terms.{playback_level, listed_level}
use Rattle.playback_core.specs.Stands as playback
use Rattle.desk_core.proofs.frames.merge_some.Given as goal

-- the levels of the channels so far are merged, and all are in their range
abbrev pub invariant-loop-channel : goal.invariant-loop-channel
invariant-loop-channel g l = record {
  merged : (show : Tables) (moves : List Move) (stopped : Bool)
      → playback.StandsFor g.F.Fader.stands_for
      show l.playback moves stopped → (k : ℕ) → k < l.channel-index
      → listed_level l.levels (get_or l.channels k 0) ≡ max (playback_level show moves (get_or
      l.channels k 0) (g.F.Fader.latest l.playback.fader)) (listed_level l.floors (get_or
      l.channels k 0));
  full : AreLevels l.levels;
}
