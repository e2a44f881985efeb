-- What a console answers to a call, and what it offers.
use Rattle.std.specs.Prelude.{◌≡◌, ℕ, List, ◌++◌, Option, Some, None, count_by}
use Rattle.devices.specs.Send.{Send}
use Rattle.desk_core.specs.declared.answer.Refused.{Refused}
use Rattle.desk_core.specs.Played.{Act, ticks_since_end, refusal, tick_answer}
use Rattle.desk_core.specs.declared.command.Command.TheVariants.{Go, Back, Goto}
use Rattle.desk_core.specs.declared.instruction.Instruction.TheVariants.{Plain, GotoIn}
use Rattle.sacn_source.specs.declared.offered.Offered.{Offered}
use Rattle.console.specs.Offering.{AreOffered}
use Rattle.console.specs.Streams.{Production}
use Rattle.console.specs.declared.call.Call.{Call}
use Rattle.console.specs.declared.call.Call.TheVariants as call
use Rattle.console.specs.declared.reading.Reading.TheVariants.{At}
use Rattle.console.specs.Spelling.{act_of}
use Rattle.console.specs.Texts.{done_text, moment_line, refused_text, ticked_text}
use Rattle.cmd_play.specs.declared.performance.Answer.{Answer}
use Rattle.cmd_play.specs.declared.performance.Answer.TheVariants.{Done, Ticked}
use Rattle.cmd_play.specs.declared.performance.Answer.TheVariants.{Refused as Refuse}
use Rattle.cmd_play.specs.Lost.{is_lost}
use Rattle.cmd_play.specs.Run.{dues_after}

-- the answer to a call, by its refusal, the ticks since End, and what became of its offers
abbrev pub call_answer : Option Refused → Call → Option ℕ → List (ℕ × Offered) → Answer
call_answer (Some refused) call ticks offers = Refuse refused
call_answer None (call.Order instruction) ticks offers = Done
call_answer None call.Tick ticks offers = Ticked (tick_answer ticks) offers

-- the link is offered what is due after the history, and the console answers so
pub record Performs (p : Production) (history : List Act) (moment : ℕ) (call : Call)
    (before after : List Send) (answer : Answer) : Type 0 where
  pub sends : List Send
  pub offers : List (ℕ × Offered)
  pub are_offered : AreOffered p.source (dues_after p history (At moment call)) sends offers
  pub after_is : after ≡ before ++ sends
  pub answer_is : answer
      ≡ call_answer (refusal p.show history (act_of moment call)) call
      (ticks_since_end history) offers

-- how many of the offers were lost
abbrev pub lost_of : Answer → ℕ
lost_of (Ticked ticked offers) = count_by (λ offer. is_lost offer.1) offers
lost_of _ = 0

-- what is printed of it
abbrev pub text_of_answer : ℕ → Answer → List ℕ
text_of_answer moment Done = moment_line moment done_text
text_of_answer moment (Refuse refused) = moment_line moment (refused_text refused)
text_of_answer moment (Ticked ticked offers) = moment_line moment (ticked_text ticked offers)

-- the cue to which an accepted call moved, from the one that is current behind it
abbrev pub own_move : Call → Option ℕ → Option ℕ
own_move (call.Order (Plain Go)) current = current
own_move (call.Order (Plain Back)) current = current
own_move (call.Order (Plain (Goto n))) current = current
own_move (call.Order (GotoIn n time)) current = current
own_move _ current = None
