use Rattle.playback_core.proofs.Terms.{◌≡◌, ◌≤◌, Bool, List, IsPlaceAfter, cues_above, Move, moves_by}
use Rattle.playback_core.proofs.Terms.{start_of}
use Rattle.std.proofs.Common.{map, IfSome}
use Rattle.playback_core.proofs.playback.make_due.Given as goal

-- some of the moves that are due are made
abbrev pub invariant-loop-n : goal.invariant-loop-n
invariant-loop-n g l = record {
  stands : (moves : List Move) (stopped : Bool) → IsPlaceAfter l.show l.initial.place moves stopped
      → g.F.Fader.stands_for l.initial.fader (map (start_of l.show) moves)
      → (made : List Move) × IsPlaceAfter l.show l.place made stopped
      × g.F.Fader.stands_for l.fader (map (start_of l.show) made)
      × (moves_by l.show stopped l.moment made ≡ moves_by l.show stopped l.moment moves);
  channels : g.F.Fader.channels l.fader ≡ 4096;
  not_ahead : g.F.Fader.latest l.fader ≤ l.moment;
  in_order : IfSome l.place.due (λ due. g.F.Fader.latest l.fader ≤ due);
}

abbrev pub decreases-loop-n : goal.decreases-loop-n
decreases-loop-n g l = cues_above l.show.cues l.place.current
