use Rattle.playback_core.proofs.Terms.{◌≡◌, Bool, List, IsPlaceAfter, cues_above, Move, moves_by}
use Rattle.playback_core.proofs.place.Place.current_by.Given as goal

-- at the place after some of the moves that are due
abbrev pub invariant-loop : goal.invariant-loop
invariant-loop l =
    (moves : List Move) (stopped : Bool) → IsPlaceAfter l.show l.initial.self moves stopped
    → (made : List Move) × IsPlaceAfter l.show l.self made stopped
    × (moves_by l.show stopped l.moment made ≡ moves_by l.show stopped l.moment moves)

abbrev pub decreases-loop : goal.decreases-loop
decreases-loop l = cues_above l.show.cues l.self.current
