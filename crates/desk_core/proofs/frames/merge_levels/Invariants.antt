use Rattle.desk_core.proofs.Terms.{◌≡◌, ◌<◌, ◌≤◌, ◌+◌, ℕ, Bool, List, get_or, max, Tables, Move}
use Rattle.desk_core.proofs.Terms.{playback_level}
use Rattle.playback_core.specs.Stands as playback
use Rattle.desk_core.proofs.frames.merge_levels.Given as goal

-- the levels so far are merged, and in their range
abbrev pub invariant-loop-channel : goal.invariant-loop-channel
invariant-loop-channel g l = record {
  merged : (show : Tables) (moves : List Move) (stopped : Bool)
      → playback.StandsFor g.F.Fader.stands_for
      show l.playback moves stopped → (place : ℕ) → place + 1 < l.channel
      → get_or l.levels place 0 ≡ max (playback_level show moves (place + 1) (g.F.Fader.latest
      l.playback.fader)) (get_or l.floors place 0);
  full : (place : ℕ) → place + 1 < l.channel → get_or l.levels place 0 ≤ 65025;
}
