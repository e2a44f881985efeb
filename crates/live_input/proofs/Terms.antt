-- The words of std, of the crates below and of the definitions that several proofs here name.
pub use Rattle.std.proofs.Common.{◌≡◌, ◌≤◌, ◌<◌, ◌^◌, ℕ, ◌+◌, true, false, refl, ap, ◌∙◌, arith}
pub use Rattle.std.proofs.Common.{List, ◌∷◌, Option, Some, None, max, min, Bool, sym, [], ◌++◌}
pub use Rattle.std.proofs.Common.{length, suc, fold, reverse, append_assoc, length-append}
pub use Rattle.std.proofs.Common.{append-nil, ◌↔◌, drop, zero, ◌/◌, ◌%◌, rules, one-add, map, ◌⊎◌}
pub use Rattle.std.proofs.Common.{inl, inr, cond, take, get_or, ◌-◌, subst}
pub use Rattle.std.specs.Prelude.{is_none, codes, nat_le, ◌&&◌, unwrap_or, ◌==◌, is_some, decimal}
pub use Rattle.std.specs.Prelude.{flat_map, not, All, IfNone, option_map}
pub use Rattle.std.specs.Option.{option_map_or}
pub use Rattle.std.proofs.lemmas.Bool.{cond_both, leb-true, and_parts, le-leb, not-true}
pub use Rattle.std.proofs.lemmas.Bool.{agree_below, agree_below_at}
pub use Rattle.std.proofs.lemmas.Bool.Decides.{nat_tests}
pub use Rattle.show_core.specs.Tables.{Tables}
pub use Rattle.master_core.specs.Settings.{Setting}
pub use Rattle.desk_core.specs.declared.command.Command.TheVariants.{End, Master, Go, Back, Goto}
pub use Rattle.desk_core.specs.declared.command.Command.TheVariants.{Sub, Group}
pub use Rattle.desk_core.specs.declared.instruction.Instruction.{Instruction}
pub use Rattle.desk_core.specs.declared.instruction.Instruction.TheVariants.{Plain, GotoIn}
pub use Rattle.desk_core.specs.Played.{Act, last_act_moment, last_tick}
pub use Rattle.live_input.specs.declared.progress.Stage.{Stage}
pub use Rattle.live_input.specs.declared.progress.Stage.TheVariants.{On, Dark, Ended}
pub use Rattle.live_input.specs.Laws.{IsDim, accepted_acts, since_end, acts_with, IsOn, IsEnding}
pub use Rattle.live_input.specs.Laws.{was_left, words_given, PlayTakes, IsSpelled, SpellsInstruction}
pub use Rattle.live_input.specs.Laws.{lines_text, AlwaysRise, LinesFollowTicks, Rise, TicksGoFirst}
pub use Rattle.live_input.specs.Laws.{moment_given, tick_moment, RecordsAreRecalled, IsTick}
pub use Rattle.live_input.specs.Laws.{NothingIsAsked, TicksAreNext}
pub use Rattle.live_input.specs.Night.{refusal, Answer, Happening, answer_to, answers, asked}
pub use Rattle.live_input.specs.Night.{next_tick, close, dim, is_on, is_through, now, order, stage}
pub use Rattle.live_input.specs.Night.{stage_by, tick, before_lines, bytes_come, by_itself}
pub use Rattle.live_input.specs.Night.{ignored_keys, is_over, lines_answered, request_of, to_line}
pub use Rattle.live_input.specs.Night.{to_request, asks_help, behind_moment, instruction_asked, is_only}
pub use Rattle.live_input.specs.Night.{order_asked, words_asked, ends_with_input, goes_first}
pub use Rattle.live_input.specs.Night.{is_light_down, unanswered_lines, to_lines, place, help, wait}
pub use Rattle.live_input.specs.Night.{over, lines_given, came, closed, was_tick, with_given}
pub use Rattle.live_input.specs.Night.{printable}
pub use Rattle.live_input.specs.declared.progress.Progress.{Progress}
pub use Rattle.live_input.specs.Kept.{InputState, TypedKept}
pub use Rattle.live_input.specs.declared.request.Request.{Request}
pub use Rattle.live_input.specs.declared.request.Request.TheVariants.{Nothing, Where, Help, Leave}
pub use Rattle.live_input.specs.declared.request.Request.TheVariants.{Finish, Order}
pub use Rattle.live_input.specs.Keys.{has_keys, without_keys, is_escape, is_text_byte, part_after}
pub use Rattle.live_input.specs.Keys.{text_from}
pub use Rattle.live_input.specs.Stands.{StandsFor, TakesLine, TypedStands, IsNext}
pub use Rattle.live_input.specs.declared.given.Given.{Given}
pub use Rattle.live_input.specs.Told.{Leaves, Tells, TellsFirst, IsGiven}
pub use Rattle.ascii_text.specs.Text.{words_of, lines_of, is_bang, is_separator, is_word}
pub use Rattle.console.specs.Spelling.{instruction_of, call_of, is_malformed, reading_of, instruction_with}
pub use Rattle.live_input.specs.declared.reason.Reason.{Reason}
pub use Rattle.std.proofs.lemmas.List.{take_all, append_cancel_right, drop_more, take_min}
pub use Rattle.std.proofs.lemmas.List.{length-take, take-append-le}
pub use Rattle.std.proofs.lemmas.List.Sums.{fold-append, AllPass-from_list_all}
pub use Rattle.std.specs.List.{list_all, filter_map, position_or_len}
pub use Rattle.std.proofs.lemmas.Grind.{elements, moves, common_steps}
pub use Rattle.std.proofs.lemmas.Fmt.{length-decimal-le, decimal_nonempty, digits_decimal}
pub use Rattle.std.proofs.lemmas.Fmt.{digits_value-decimal}
pub use Rattle.std.proofs.lemmas.List.Elements.{All-append, All-cons, All-drop, All-head, All-nil}
pub use Rattle.std.proofs.lemmas.List.Elements.{All-push, All-tail, All-take, All-weaker}
pub use Rattle.live_input.specs.Typed.{TypedLines, nothing_typed, says_nothing, typed_of}
pub use Rattle.live_input.specs.Typed.{with_typed_byte}
pub use Rattle.live_input.specs.declared.keys.Part.{Part}
pub use Rattle.live_input.specs.declared.keys.Part.TheVariants.{Text}
pub use Rattle.std.proofs.Math.Seq.{drop-append_seam, drop-append-add, drop-length, take-append-add}
pub use Rattle.console.specs.declared.call.Call.{Call}
pub use Rattle.console.specs.declared.call.Call.TheVariants.{Tick}
pub use Rattle.console.specs.declared.reading.Reading.{Reading}
pub use Rattle.console.specs.declared.reading.Reading.TheVariants.{At, Blank, Malformed}
pub use Rattle.live_input.specs.declared.given.GivenLine.{GivenLine}
pub use Rattle.live_input.specs.declared.given.Given.TheVariants.{Line, Over, Refused, Until}
pub use Rattle.live_input.specs.Recall.{AreRecalled, IsRecalled, recall_of, recall_line}
pub use Rattle.live_input.specs.Recall.{recalled_by, typed_again}
pub use Rattle.std.specs.Char.{is_ascii_digit, to_ascii_lowercase}
pub use Rattle.std.specs.Fmt.{digit_glyph, digits_onto}
unfoldable pub use Rattle.std.specs.Fmt.{digits}
pub use Rattle.std.specs.Str.Parse.{digits_value}
pub use Rattle.std.proofs.lemmas.List.Splits.{slice_split_at}
pub use Rattle.std.proofs.lemmas.Slice.Eq.{bytes_eq-Decides}
pub use Rattle.std.proofs.lemmas.Str.Parse.{IsNumeralModel, numerals_by_value}
pub use Rattle.ascii_text.specs.Forms.{moment_of, same_word}
pub use Rattle.std.proofs.Math.Nat.{min_comm}
pub use Rattle.live_input.specs.TypedView.{typed_kept}
pub use Rattle.std.specs.Cmp.Lexicographic.{bytes_decides}
