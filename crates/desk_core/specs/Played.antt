-- What a console does: its calls, why one is refused, and the moves and settings that the accepted
-- ones make.
use Rattle.std.specs.Prelude.{ℕ, ◌+◌, ◌^◌, nat_lt, nat_le, Bool, true, false, not}
use Rattle.std.specs.Prelude.{List, [], ◌∷◌, find, Option, Some, None, is_some, is_none, Result}
use Rattle.std.specs.Prelude.{Ok, Err}
use Rattle.std.specs.Option.{option_or}
use Rattle.std.specs.FinMap as map
use Rattle.show_core.specs.Tables.{Tables}
use Rattle.playback_core.specs.Played.{Move, current_after, go_target, back_target, goto_target}
use Rattle.playback_core.specs.Played.{with_due, moves_by}
use Rattle.master_core.specs.Settings.{Setting, sub_setting, group_setting, grand_setting}
use Rattle.desk_core.specs.declared.command.Command.TheVariants.{Go, Back, Goto, Sub, Group}
use Rattle.desk_core.specs.declared.command.Command.TheVariants.{Master, End}
use Rattle.desk_core.specs.declared.instruction.Instruction.{Instruction}
use Rattle.desk_core.specs.declared.instruction.Instruction.TheVariants.{Plain, GotoIn}
use Rattle.desk_core.specs.declared.answer.Ticked.{Ticked}
use Rattle.desk_core.specs.declared.answer.Ticked.TheVariants.{Live, Ending}
use Rattle.desk_core.specs.declared.answer.Refused.{Refused}
use Rattle.desk_core.specs.declared.answer.Refused.TheVariants.{Backwards, MomentTooLarge, Ended}
use Rattle.desk_core.specs.declared.answer.Refused.TheVariants.{TooSoon, AtEnd, AtStart, NoCue}
use Rattle.desk_core.specs.declared.answer.Refused.TheVariants.{NoSub, NoGroup}

-- a call: an instruction of the operator, or a tick, at which the universes are shown anew
pub data Call : Type 0 where
  order : Instruction → Call
  tick : Call

-- a call at its moment, in milliseconds. A history is the list of the calls that were accepted, the
-- newest first
pub record Act : Type 0 where
  pub moment : ℕ
  pub call : Call

abbrev pub order_at : ℕ → Instruction → Act
order_at moment instruction = record { moment = moment; call = order instruction }

abbrev pub tick_at : ℕ → Act
tick_at moment = record { moment = moment; call = tick }

-- ---- what a history leaves

-- the moment of the last call; 0 before the first
abbrev pub last_act_moment : List Act → ℕ
last_act_moment [] = 0
last_act_moment (act ∷ older) = act.moment

-- the moment of the last tick, where there was one
abbrev pub last_tick : List Act → Option ℕ
last_tick [] = None
last_tick (act ∷ older) = ticked_at act.call act.moment (last_tick older) where
  ticked_at : Call → ℕ → Option ℕ → Option ℕ
  ticked_at tick moment before = Some moment
  ticked_at (order instruction) moment before = before

-- End begins the count of the ticks that end the streams
abbrev pub ended_by : Call → Option ℕ → Option ℕ
ended_by (order (Plain End)) None = Some 0
ended_by tick (Some ticks) = Some (ticks + 1)
ended_by _ ended = ended

-- how many ticks there were after End; none where there was no End
abbrev pub ticks_since_end : List Act → Option ℕ
ticks_since_end [] = None
ticks_since_end (act ∷ older) = ended_by act.call (ticks_since_end older)

-- the cue that a call moves to, from the current one
abbrev pub target : Tables → Option ℕ → Call → Option ℕ
target show current (order (Plain Go)) = go_target show.cues current
target show current (order (Plain Back)) = back_target show.cues current
target show current (order (Plain (Goto n))) = goto_target show.cues n
target show current (order (GotoIn n time)) = goto_target show.cues n
target show current _ = None

-- the time that a call gives its move in place of the cue's, where it gives one
abbrev pub own_time : Call → Option ℕ
own_time (order (GotoIn n time)) = Some time
own_time call = None

-- a move more, where there is a cue to move to
abbrev pub moved_to : Option ℕ → ℕ → Option ℕ → List Move → List Move
moved_to None moment time older = older
moved_to (Some n) moment time older = record { cue = n; moment = moment; time = time } ∷ older

-- the moves of a history, the newest first: before each call those that are due by its moment, as
-- long as there was no End, and then its own
abbrev pub moves : Tables → List Act → List Move
moves show [] = []
moves show (act ∷ older) =
    let made = moves_by show (is_some (ticks_since_end older)) act.moment (moves show older) in
    moved_to (target show (current_after made) act.call) act.moment (own_time act.call) made

-- a setting more, where the call sets a master
abbrev pub set_by : Call → List Setting → List Setting
set_by (order (Plain (Sub n byte))) older = sub_setting n byte ∷ older
set_by (order (Plain (Group n byte))) older = group_setting n byte ∷ older
set_by (order (Plain (Master byte))) older = grand_setting byte ∷ older
set_by _ older = older

-- the settings of the masters in a history, the newest first
abbrev pub settings : List Act → List Setting
settings [] = []
settings (act ∷ older) = set_by act.call (settings older)

-- ---- refusals and answers

-- after End: no instruction, and no tick after the third (E1.31, Options: three packets with
-- Stream_Terminated end a stream)
abbrev pub is_after_end : Option ℕ → Call → Bool
is_after_end None call = false
is_after_end (Some ticks) (order instruction) = true
is_after_end (Some ticks) tick = nat_le 3 ticks

-- a tick less than 23 ms after the last one (E1.31, Transmission Rate: no faster than DMX512-A,
-- whose full packet takes 22.7 ms)
abbrev pub is_soon : Option ℕ → ℕ → Call → Bool
is_soon None moment call = false
is_soon (Some last) moment (order instruction) = false
is_soon (Some last) moment tick = nat_lt moment (last + 23)

-- what stands against the moment of a call, refusal by refusal
abbrev pub is_untimely : ℕ → ℕ → Bool → Bool → Refused → Bool
is_untimely last moment over soon Backwards = nat_lt moment last
is_untimely last moment over soon MomentTooLarge = nat_le (2 ^ 48) moment
is_untimely last moment over soon Ended = over
is_untimely last moment over soon TooSoon = soon
is_untimely last moment over soon _ = false

-- the first of them that applies, in their order
abbrev pub time_refusal : ℕ → ℕ → Bool → Bool → Option Refused
time_refusal last moment over soon =
    find (is_untimely last moment over soon) (Backwards ∷ MomentTooLarge ∷ Ended ∷ TooSoon ∷ [])

-- what a call asks for and the show does not have, refusal by refusal: a cue to go to, a
-- submaster or a group
abbrev pub call_lacks : Tables → Option ℕ → Call → Refused → Bool
call_lacks show current (order (Plain Go)) AtEnd = is_none (go_target show.cues current)
call_lacks show current (order (Plain Back)) AtStart = is_none (back_target show.cues current)
call_lacks show current (order (Plain (Goto n))) NoCue = is_none (goto_target show.cues n)
call_lacks show current (order (GotoIn n time)) NoCue = is_none (goto_target show.cues n)
call_lacks show current (order (Plain (Sub n byte))) NoSub = not (map.contains_key show.subs n)
call_lacks show current (order (Plain (Group n byte))) NoGroup =
    not (map.contains_key show.groups n)
call_lacks show current call _ = false

-- the first of them that applies, in their order
abbrev pub lack_refusal : Tables → Option ℕ → Call → Option Refused
lack_refusal show current call =
    find (call_lacks show current call) (AtEnd ∷ AtStart ∷ NoCue ∷ NoSub ∷ NoGroup ∷ [])

-- why a call is refused after a history: the lowest refusal that applies, if any does. The current
-- cue is that after the moves due by the call's moment
abbrev pub refusal : Tables → List Act → Act → Option Refused
refusal show history act =
    option_or
    (time_refusal (last_act_moment history) act.moment
    (is_after_end (ticks_since_end history) act.call)
    (is_soon (last_tick history) act.moment act.call))
    (lack_refusal show (current_after (with_due show act.moment (moves show history))) act.call)

-- the answer of a call: its refusal, or else this
abbrev pub outcome : {A : Type 0} → Option Refused → A → Result A Refused
outcome None answer = Ok answer
outcome (Some refused) answer = Err refused

-- what an accepted tick answers, after so many ticks since End
abbrev pub tick_answer : Option ℕ → Ticked
tick_answer None = Live
tick_answer (Some ticks) = Ending (ticks + 1)
