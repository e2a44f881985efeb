-- The words of std, of the crates below and of the definitions that several proofs here name.
pub use Rattle.std.proofs.Common.{◌≡◌, ◌↔◌, ℕ, List, refl, Bool, true, false, Result, Ok, Err, None}
pub use Rattle.std.proofs.Common.{cond, ap, arith, sym, ◌∙◌, [], Some, append-nil, ◌∷◌, subst, ◌++◌}
pub use Rattle.std.proofs.Common.{length, take, ◌⊎◌, inr, ◌+◌, append_assoc, length-append, ◌≤◌}
pub use Rattle.std.proofs.Common.{rules, drop, take-append-drop, inl}
pub use Rattle.std.specs.Prelude.{IsTrue, IsFalse, Option, count_by, is_none, is_some}
pub use Rattle.std.specs.Prelude.{if◌then◌else◌, ◌==◌}
unfoldable pub use Rattle.patch_core.specs.Frame.{is_base}
pub use Rattle.patch_core.specs.declared.fault.RigFault.{RigFault}
pub use Rattle.patch_core.specs.declared.fault.RigFault.TheVariants.{Universe}
pub use Rattle.show_core.specs.Tables.{Tables}
pub use Rattle.show_line.specs.Said.{desk_limits}
pub use Rattle.show_reader.specs.Reading.{text_fault}
pub use Rattle.show_reader.specs.Shows.{IsShowOf}
pub use Rattle.show_reader.specs.Text.{statements_of}
pub use Rattle.show_reader.specs.ItsShow.{OfItsShow}
pub use Rattle.show_reader.proofs.OneShow.{of_its_show}
pub use Rattle.std.proofs.lemmas.List.Sums.{sum_by-cons, sum_by-append, fold-append}
pub use Rattle.devices.specs.Send.{Send, failures_of}
pub use Rattle.desk_core.specs.declared.answer.Refused.{Refused}
pub use Rattle.desk_core.specs.declared.answer.Ticked.{Ticked}
pub use Rattle.desk_core.specs.Played.{Act, ticks_since_end, outcome, refusal, tick_answer, is_after_end}
pub use Rattle.desk_core.specs.Played.{is_soon, lack_refusal, call_lacks, last_act_moment, last_tick}
pub use Rattle.desk_core.specs.Played.{moved_to, moves, order_at, own_time, target, tick_at}
pub use Rattle.desk_core.specs.Played.{time_refusal}
pub use Rattle.sacn_source.specs.Identity.{Identity}
pub use Rattle.sacn_source.specs.declared.offered.Offered.{Offered}
pub use Rattle.sacn_source.specs.declared.offered.Offered.TheVariants.{Quiet}
pub use Rattle.sacn_source.specs.Offering.{answer_of}
pub use Rattle.console.specs.Offering.{AreOffered, none, quiet, sent, OffersDues}
pub use Rattle.console.specs.Streams.{Due, Production, dues_at}
pub use Rattle.console.specs.declared.call.Call.{Call}
pub use Rattle.console.specs.declared.call.Call.TheVariants.{Order, Tick}
pub use Rattle.console.specs.Spelling.{act_of, reading_of}
pub use Rattle.console.specs.declared.reading.Reading.{Reading}
pub use Rattle.console.specs.declared.reading.Reading.TheVariants.{At, Blank}
pub use Rattle.console.specs.Texts.{moment_line}
pub use Rattle.cmd_play.specs.Lost.{is_lost}
pub use Rattle.cmd_play.specs.Run.{IsAnswered, answer_text, dues_after, dues_by, line_text}
pub use Rattle.cmd_play.specs.Run.{Emission, Ran, CarriedLine, CarriesOut, history_of, lines_of_run}
pub use Rattle.cmd_play.specs.Run.{sends_of_run, text_of_run, emission}
pub use Rattle.cmd_play.specs.declared.performance.Answer.{Answer}
pub use Rattle.cmd_play.specs.Perform.{Performs, call_answer, text_of_answer, own_move}
pub use Rattle.std.specs.Result.{IfErr, IsErrAnd}
pub use Rattle.std.proofs.lemmas.Result.{err_from_is_err_and}
pub use Rattle.cmd_play.specs.declared.fault.PlayFault.{PlayFault}
pub use Rattle.std.specs.Option.{option_or}
pub use Rattle.playback_core.specs.Played.{Move, current_after, moves_by}
pub use Rattle.desk_core.specs.declared.command.Command.TheVariants.{Go, Back, Goto, Sub, Group}
pub use Rattle.desk_core.specs.declared.command.Command.TheVariants.{Master, End}
pub use Rattle.desk_core.specs.declared.instruction.Instruction.{Instruction}
pub use Rattle.desk_core.specs.declared.instruction.Instruction.TheVariants.{Plain, GotoIn}
pub use Rattle.desk_core.specs.declared.answer.Refused.TheVariants.{AtEnd, AtStart, NoCue}
pub use Rattle.fade_core.specs.declared.fader.Fader.{Ghosts}
pub use Rattle.fade_core.specs.Level.{Start}
pub use Rattle.devices.specs.Tape.{Tape, with_more, with_failure}
pub use Rattle.devices.proofs.Tapes.{with_more-none, with_more-twice}
pub use Rattle.cmd_play.specs.declared.stage.Stage.{Stage}
pub use Rattle.ascii_text.specs.Lines.{with_last_lf, cut_of, no_bytes, Cut, with_byte}
pub use Rattle.cmd_play.specs.Play.{PlayEndsEarly, PlaysAll}
pub use Rattle.cmd_play.specs.Stage.{PlayHasEnded, PlayHasTaken, StandsFor, PlayLeaves, LeavesLine}
pub use Rattle.cmd_play.specs.Stage.{EndsPlay, late, play_room}
pub use Rattle.std.proofs.lemmas.List.Elements.{All-nil}
pub use Rattle.cmd_play.specs.Lines.{ArePlayLines}
pub use Rattle.cmd_play.specs.declared.fault.PlayFault.TheVariants.{Device, Line}
pub use Rattle.std.proofs.lemmas.Bool.Decides.{nat_tests}
pub use Rattle.std.proofs.lemmas.Grind.{common_steps}
pub use Rattle.std.proofs.lemmas.List.{drop_more, take_all, take_more}
