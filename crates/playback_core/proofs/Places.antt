-- The place in the cue list, as the moves that are due are made.
use Rattle.playback_core.proofs.Terms.{◌≡◌, ℕ, ◌≤◌, Bool, true, false, List, [], ◌∷◌, Option, Some, None}
use Rattle.playback_core.proofs.Terms.{refl, sym, ◌∙◌, arith, unwrap_or, option_map, nat_tests}
use Rattle.playback_core.proofs.Terms.{cue_above, Tables, Place, IsPlaceAfter, Move, current_after}
use Rattle.playback_core.proofs.Terms.{next_move, due_moment, with_due, moves_by, is_by}
use Rattle.playback_core.proofs.Due.{with_due-due, with_due-none}

abbrev pub move_to : ℕ → ℕ → Move
move_to n moment = record { cue = n; moment = moment; time = None }

-- what is due at a moment goes to the cue that was found
due_is : (show : Tables) (moves : List Move) (n moment : ℕ)
    → option_map (λ move. move.moment) (next_move show moves) ≡ Some moment
    → cue_above show.cues (unwrap_or (current_after moves) 0) ≡ Some n
    → next_move show moves ≡ Some (move_to n moment)
due_is show [] n moment is found = cc
due_is show (move ∷ older) n moment is found = grind arith

module _ (show : Tables) (moment : ℕ) where
  -- where a move is due and there is a cue, it is made
  pub moved : (place after : Place) (n at : ℕ) → place.due ≡ Some at
      → is_by place.due moment ≡ true → cue_above show.cues (unwrap_or place.current 0) ≡ Some n
      → after.current ≡ Some n → after.due ≡ due_moment show false (move_to n at ∷ [])
      → (moves : List Move) (stopped : Bool) → IsPlaceAfter show place moves stopped
      → IsPlaceAfter show after (move_to n at ∷ moves) stopped
      × (moves_by show stopped moment moves ≡ moves_by show stopped moment (move_to n at ∷ moves))
  moved place after n at due_at by found current next moves true is = cc
  moved place after n at due_at by found current next moves false is =
      let first = due_is show moves n at (sym is.due ∙ due_at) (rw is.current at found) in
      let by : at ≤ moment = grind (arith, nat_tests) in
      (record { current = current; due = next }, with_due-due show moment moves _ first by)

  -- where none is due, none is made
  pub none_made : (next : Option ℕ) (moves : List Move) → next ≡ due_moment show false moves
      → is_by next moment ≡ false → with_due show moment moves ≡ moves
  none_made next moves is later = with_due-none show moment moves (grind (arith, nat_tests))

  pub still : (place : Place) → is_by place.due moment ≡ false
      → (moves : List Move) (stopped : Bool) → IsPlaceAfter show place moves stopped
      → moves_by show stopped moment moves ≡ moves
  still place later moves true is = refl
  still place later moves false is = none_made place.due moves is.due later

-- what is not due by a moment is not due before
pub is_by-before : (next : Option ℕ) (earlier moment : ℕ) → earlier ≤ moment
    → is_by next moment ≡ false → is_by next earlier ≡ false
is_by-before next earlier moment le later = grind (arith, nat_tests)
