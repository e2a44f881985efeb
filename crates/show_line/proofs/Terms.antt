-- The words of std, of the crates below and of the definitions that several proofs here name.
pub use Rattle.std.proofs.Common.{◌≡◌, ℕ, suc, zero, ◌+◌, ◌*◌, ◌/◌, ◌^◌, ◌<◌, ◌≤◌, Bool, true}
pub use Rattle.std.proofs.Common.{false, List, [], ◌∷◌, length, IsTrue, refl, subst, arith, rules}
pub use Rattle.std.proofs.Common.{Option, Some, None, sym, All, ap, ◌∙◌, ◌++◌, ◌-◌, drop}
pub use Rattle.std.proofs.Common.{append_assoc, take}
pub use Rattle.std.specs.Prelude.{nat_le, ◌&&◌, ◌==◌, IfSome, option_map, option_and_then}
pub use Rattle.std.specs.Prelude.{if◌then◌else◌, nat_lt, Result, Ok, Err, MatchResult, unwrap_or}
pub use Rattle.std.specs.Prelude.{is_some, codes}
pub use Rattle.std.specs.List.{list_all, list_any, before_first, after_first}
pub use Rattle.std.specs.Char.{is_ascii_digit}
pub use Rattle.std.specs.Str.Parse.{digits_value}
pub use Rattle.std.proofs.Math.Nat.{mul-le-mul_right}
pub use Rattle.std.proofs.lemmas.Bool.Decides.{nat_tests}
pub use Rattle.std.proofs.lemmas.Str.Parse.{IsNumeralModel, numerals_by_value, digits_value_short}
pub use Rattle.ascii_text.specs.Forms.{is_run, digits_of, whole_of, is_point, is_colon, units_of}
pub use Rattle.ascii_text.specs.Forms.{fraction_of, sum_of, scaled_of, cue_number_of, seconds_of}
pub use Rattle.ascii_text.specs.Forms.{time_of, number_of, same_word, level_of}
pub use Rattle.show_core.specs.Numbers.{is_cue_number, is_time, is_within}
pub use Rattle.std.specs.Result.{result_err}
pub use Rattle.std.proofs.lemmas.Option.{none-some}
pub use Rattle.show_line.specs.declared.fault.LineFault.{LineFault}
pub use Rattle.show_line.specs.Faults.{rank_of, lower, unless, number_fault, cue_fault, page_fault}
pub use Rattle.show_line.specs.Faults.{time_fault, range_fault, level_fault}
pub use Rattle.std.specs.Option.{option_map_or}
pub use Rattle.std.proofs.lemmas.List.Elements.{All-nil, All-cons, All-weaker}
pub use Rattle.show_line.specs.declared.fault.LineFault.TheVariants.{BadNumber, BadTime, HalfPair}
pub use Rattle.show_line.specs.declared.fault.LineFault.TheVariants.{HalfTriple}
pub use Rattle.show_line.specs.declared.keyword.Keyword.{Keyword}
pub use Rattle.show_line.specs.declared.keyword.Keyword.TheVariants.{Patch, Chan}
pub use Rattle.show_line.specs.declared.statement.Cleared.{Cleared}
pub use Rattle.show_line.specs.declared.statement.Record.{Record}
pub use Rattle.show_line.specs.declared.statement.Statement.{Statement}
pub use Rattle.show_line.specs.declared.statement.Statement.TheVariants.{Opens, Levels, SetsTime}
pub use Rattle.show_line.specs.declared.statement.Statement.TheVariants.{Patches}
pub use Rattle.show_line.specs.declared.statement.Statement.TheVariants.{Clears, Quiet, Skipped}
pub use Rattle.show_line.specs.declared.statement.Statement.TheVariants.{Faulty}
pub use Rattle.show_line.specs.declared.triples.Triple.{Triple}
pub use Rattle.show_line.specs.Keywords.{value_for, may_own}
pub use Rattle.show_line.specs.Pairs.{Limits, desk_limits, pair_fault, pairs_in, triple_fault}
pub use Rattle.show_line.specs.Pairs.{triples_in}
pub use Rattle.show_line.specs.Said.{unless_faulty, is_page_1, record_said, cue_named, group_named}
pub use Rattle.show_line.specs.Said.{sub_named, patch_said, rate_fault, rate_in, ident_said}
pub use Rattle.show_line.specs.Said.{cleared_names, follow_fault, follow_in, clear_said}
pub use Rattle.show_line.specs.Said.{statement_in, levels_said, owned_said, time_said, read_as}
pub use Rattle.show_line.specs.Sound.{IsRecordInRange, IsPairInRange, IsTripleInRange, IsSound}
pub use Rattle.show_line.specs.Sound.{IsFaultless}
pub use Rattle.show_core.specs.Cues.{IsRateInRange, IsTimeInRange}
pub use Rattle.show_core.specs.declared.cue.CueTime.{CueTime}
pub use Rattle.std.proofs.lemmas.Grind.{common_steps}
pub use Rattle.ascii_text.specs.Text.{words_of}
pub use Rattle.std.proofs.Math.Seq.{drop-length, take-append_seam}
pub use Rattle.std.proofs.lemmas.List.{length-append, length-drop, nil_from_length, take_all}
pub use Rattle.ascii_text.specs.LinesLeft.{words_left}
pub use Rattle.arrayvec.specs.ArrayVec.{array_vec_len}
