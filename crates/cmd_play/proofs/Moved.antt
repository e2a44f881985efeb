-- The cue to which an accepted call moves.
use Rattle.cmd_play.proofs.Terms.{◌≡◌, ℕ, Bool, true, false, refl, ap, sym, List, ◌∷◌, Some, None}
use Rattle.cmd_play.proofs.Terms.{arith, subst, is_none, is_some, if◌then◌else◌, option_or, Tables}
use Rattle.cmd_play.proofs.Terms.{Move, current_after, moves_by, Instruction, Plain, Go, Back, Goto, GotoIn}
use Rattle.cmd_play.proofs.Terms.{Sub, Group, Master, End, Refused, AtEnd, AtStart, NoCue, Act}
use Rattle.cmd_play.proofs.Terms.{ticks_since_end, is_after_end, is_soon, lack_refusal}
use Rattle.cmd_play.proofs.Terms.{call_lacks, last_act_moment, last_tick, moved_to, moves}
use Rattle.cmd_play.proofs.Terms.{own_time, refusal, target, time_refusal, Call, Order, Tick}
use Rattle.cmd_play.proofs.Terms.{act_of, own_move}
use Rattle.std.proofs.Common.{Option}
use Rattle.desk_core.specs.Played as played

both_none : (a b : Option Refused) → option_or a b ≡ None → (a ≡ None) × (b ≡ None)
both_none None b e = (refl, e)
both_none (Some r) b e = cc

timely : (last moment : ℕ) (over soon : Bool) → time_refusal last moment over soon ≡ None
    → over ≡ false
timely last moment true soon e = grind (arith, e)
timely last moment false soon e = refl

not_over : (ticks : Option ℕ) (instruction : Instruction)
    → is_after_end ticks (played.order instruction) ≡ false → ticks ≡ None
not_over None instruction e = refl
not_over (Some ticks) instruction e = cc

-- where one reason alone may stand against it
none_lacks : (lacks : Bool) (why : Refused) → (if lacks then Some why else None) ≡ None
    → lacks ≡ false
none_lacks true why e = cc
none_lacks false why e = refl

-- the cue that was found is current
there : (found time : Option ℕ) (moment : ℕ) (made : List Move) → is_none found ≡ false
    → found ≡ current_after (moved_to found moment time made)
there None time moment made e = cc
there (Some n) time moment made e = refl

module _ (show : Tables) (history : List Act) (moment : ℕ) where
  abbrev pub due_moves : List Move
  due_moves = moves_by show (is_some (ticks_since_end history)) moment (moves show history)

  -- an accepted instruction lacks nothing
  has_all : (instruction : Instruction) → refusal show history (act_of moment (Order instruction)) ≡ None
      → lack_refusal show (current_after due_moves) (played.order instruction) ≡ None
  has_all instruction e =
      let parts = both_none _ _ e in
      let none : ticks_since_end history ≡ None = not_over (ticks_since_end history) instruction
      (timely (last_act_moment history) moment _ _ parts.0) in
      subst (λ (ticks : Option ℕ). lack_refusal show
      (current_after (moves_by show (is_some ticks) moment (moves show history)))
      (played.order instruction) ≡ None) (sym none) parts.1

  pub own_is : (call : Call) → refusal show history (act_of moment call) ≡ None
      → moves show (act_of moment call ∷ history)
      ≡ moved_to (own_move call (current_after (moves show (act_of moment call ∷ history)))) moment
      (own_time (act_of moment call).call) due_moves
  own_is Tick e = refl
  own_is (Order (Plain (Sub n byte))) e = refl
  own_is (Order (Plain (Group n byte))) e = refl
  own_is (Order (Plain (Master byte))) e = refl
  own_is (Order (Plain End)) e = refl
  own_is (Order (Plain Go)) e = ap (λ cue. moved_to cue moment None due_moves)
      (there _ None moment due_moves (none_lacks _ AtEnd (has_all (Plain Go) e)))
  own_is (Order (Plain Back)) e = ap (λ cue. moved_to cue moment None due_moves)
      (there _ None moment due_moves (none_lacks _ AtStart (has_all (Plain Back) e)))
  own_is (Order (Plain (Goto n))) e = ap (λ cue. moved_to cue moment None due_moves)
      (there _ None moment due_moves (none_lacks _ NoCue (has_all (Plain (Goto n)) e)))
  own_is (Order (GotoIn n time)) e = ap (λ cue. moved_to cue moment (Some time) due_moves)
      (there _ (Some time) moment due_moves (none_lacks _ NoCue (has_all (GotoIn n time) e)))
