-- The words of std, of the crates below and of the definitions that several proofs here name.
pub use Rattle.std.proofs.Common.{◌≡◌, ℕ, ◌+◌, ◌<◌, ◌≤◌, T, IsTrue, List, [], ◌∷◌, ◌++◌, take, drop}
pub use Rattle.std.proofs.Common.{length, length-append, Option, Some, None, refl, ap, sym, subst}
pub use Rattle.std.proofs.Common.{◌∙◌, arith, get_or, map, ◌==◌, ◌||◌, false, cond, Bool, true}
pub use Rattle.std.proofs.Common.{reverse, Vec, Global, zero, suc, flat_map, append_assoc, rules}
pub use Rattle.std.proofs.Common.{◌-◌, length-drop, codes, OnOk}
pub use Rattle.std.specs.Prelude.{All, find, nat_lt, filter, replicate, option_map, decimal, IfOk}
pub use Rattle.std.specs.Prelude.{is_some}
pub use Rattle.std.specs.Ordering.{nat_cmp}
pub use Rattle.std.specs.Cmp.{unsigned_tied}
pub use Rattle.std.specs.FinMap.Entries.{below_all}
pub use Rattle.std.proofs.lemmas.Bool.Decides.{nat_tests}
pub use Rattle.std.proofs.lemmas.List.{append-nil, drop_more, get_or-map, take-append-drop}
pub use Rattle.std.proofs.lemmas.List.{take_more, length-reverse, reverse-reverse, take_all}
pub use Rattle.std.proofs.lemmas.List.{flat_map_more, map-append, map_more, map_push}
pub use Rattle.std.proofs.lemmas.List.{reverse-append, take_min}
pub use Rattle.show_core.specs.declared.cue.CueData.{CueData}
pub use Rattle.show_core.specs.Numbers.{is_cue_number, is_channel}
pub use Rattle.show_core.specs.Readers.{cue_above}
pub use Rattle.show_core.specs.Tables.{CueMap, Tables}
pub use Rattle.show_core.proofs.Ordinals.{below_of}
pub use Rattle.show_core.proofs.Sorted.{and_left, and_right, less}
pub use Rattle.cmd_explain.specs.LineNotes.{has_decimal_comma, is_decimal, notes_of_kind}
pub use Rattle.cmd_explain.specs.LineNotes.{desk_statement, link_note_on, link_note, times_on}
pub use Rattle.cmd_explain.specs.LineNotes.{comma_note_on, comma_note, hour_by, hour_note, again_by}
pub use Rattle.cmd_explain.specs.LineNotes.{openings, openings_after, note_line, opening_line}
pub use Rattle.std.proofs.lemmas.Grind.{reverse_onto}
pub use Rattle.std.proofs.Math.Seq.{take-append_seam}
pub use mathlib.Core.List.{reverse_aux}
pub use Rattle.ascii_text.specs.Text.{lines_of, numbered_from, words_of}
pub use Rattle.show_line.specs.declared.keyword.Keyword.{Keyword}
pub use Rattle.show_line.specs.declared.line.Reading.{Reading}
pub use Rattle.show_line.specs.declared.statement.Record.{Record}
pub use Rattle.show_line.specs.Keywords.{keyword_of, may_own}
pub use Rattle.show_line.specs.Said.{desk_limits, record_opened, line_reading, statement_in}
pub use Rattle.show_reader.specs.Meaning.{is_skipped}
pub use Rattle.show_reader.specs.Text.{Words, owner_below, owns, said_under, statement_below}
pub use Rattle.show_reader.specs.Text.{statements_of}
pub use Rattle.cmd_explain.specs.declared.heading.Heading.{Heading}
pub use Rattle.cmd_explain.specs.Headings.{heading_below, heading_by, heading_of, is_clear}
pub use Rattle.cmd_explain.specs.Headings.{is_maker, keyword_in, operands, owner_of, is_unknown}
pub use Rattle.cmd_explain.specs.Reasons.{reason_of}
pub use Rattle.cmd_explain.specs.Skipped.{skipped_lines, skipped_line_below, skipped_line, words_in}
pub use Rattle.cmd_explain.specs.Skipped.{display_text, display_byte}
pub use Rattle.show_line.specs.declared.statement.Record.TheVariants.{Cue, Group, Sub}
pub use Rattle.show_line.specs.declared.statement.Statement.{Statement}
pub use Rattle.show_line.specs.declared.statement.Table.{Table}
pub use Rattle.show_line.specs.declared.statement.Table.TheVariants.{Cues, Groups, Subs}
pub use Rattle.cmd_explain.specs.declared.cue_parts.Part.{Part}
pub use Rattle.cmd_explain.specs.declared.note_lines.LineNotes.{LineNotes}
pub use Rattle.cmd_explain.specs.declared.openings.Openings.{Openings}
pub use Rattle.cmd_explain.specs.CueParts.{CuePart, part_of_line, newest_first, with_part}
pub use Rattle.cmd_explain.specs.CueParts.{parts_below, parts_after, change_last, part_of}
pub use Rattle.cmd_explain.specs.CueParts.{part_with_pairs, new_part, part_with_time}
pub use Rattle.cmd_explain.specs.CueParts.{first_times, last_times, part_note}
unfoldable pub use Rattle.cmd_explain.specs.CueParts.{channels_in}
pub use Rattle.cmd_explain.specs.CueParts.{cue_part_notes, times_or, notes_on_cues, part_notes}
pub use Rattle.cmd_explain.specs.NotesOf.{AreMore, AreNotesOf, AreOpeningsOf, IsTaken}
pub use Rattle.cmd_explain.specs.NotesOf.{unknown_count, unknown_in, line_notes, weighty_line_notes}
pub use Rattle.cmd_explain.specs.NotesOf.{statement_notes}
pub use Rattle.cmd_explain.specs.NumberedLines.{AreNumberedOf, IsNumberedTaken, has_no_words}
pub use Rattle.cmd_explain.specs.NumberedLines.{list_above, list_after, numbers_above}
pub use Rattle.cmd_explain.specs.NumberedLines.{numbers_after, run_by, numbered_notes, run_note}
pub use Rattle.cmd_explain.specs.NumberedLines.{note_on_run}
pub use Rattle.cmd_explain.specs.declared.numbered_lines.NumberedLines.{NumberedLines}
pub use Rattle.cmd_explain.specs.PatchNotes.{ArePatchNotesOf, IsPatchTaken, patch_note_on}
pub use Rattle.cmd_explain.specs.PatchNotes.{sheet_after, sheet_below, sheet_after_triples}
pub use Rattle.cmd_explain.specs.PatchNotes.{sheet_of, triple_note, triple_notes}
pub use Rattle.cmd_explain.specs.declared.patch_notes.PatchNotes.{PatchNotes}
pub use Rattle.std.specs.List.{slice_index_or, range_with_len, list_any}
pub use Rattle.std.proofs.lemmas.List.Elements.{All-map, filter-append}
pub use Rattle.cmd_explain.specs.Explanation.{IsOneLine, IsExplanationOf, IsTextOf, text_line}
pub use Rattle.std.proofs.lemmas.Bool.{eq-eqb, ne_eqb}
pub use Rattle.show_reader.proofs.OneShow.{of_its_show}
pub use Rattle.show_reader.specs.Reading.{lines_read}
pub use Rattle.show_reader.specs.Shows.{IsShowOf}
pub use Rattle.cmd_explain.specs.Encoding.{cr_text, has_cr_alone, has_mark}
unfoldable pub use Rattle.cmd_explain.specs.Encoding.{encoding_notes}
pub use Rattle.cmd_explain.specs.Encoding.{is_utf_16, mark_text, note_if, utf_16_text}
pub use Rattle.cmd_explain.specs.ShowNotes.{is_listed, is_marked, dark_cues}
unfoldable pub use Rattle.cmd_explain.specs.ShowNotes.{show_notes}
pub use Rattle.cmd_explain.specs.ShowNotes.{dark_channels, is_patched, list_note}
unfoldable pub use Rattle.cmd_explain.specs.ShowNotes.{dark_notes}
pub use Rattle.cmd_explain.specs.ShowNotes.{no_patch_note, same_cues}
unfoldable pub use Rattle.cmd_explain.specs.ShowNotes.{patch_notes}
pub use Rattle.show_core.proofs.Ranges.{entries_from_keys}
pub use Rattle.cmd_explain.specs.Decimals.{decimal_text}
pub use Rattle.ascii_text.specs.LinesLeft.{lines_left}
pub use Rattle.std.proofs.lemmas.List.Folds.{list_any-append}
pub use Rattle.cmd_explain.specs.declared.cue_parts.Times.{Times}
pub use Rattle.std.proofs.Math.Nat.{min_comm}
pub use Rattle.std.proofs.Math.Path.{fun_ext}
pub use Rattle.cmd_explain.specs.Weights.{line_count}
