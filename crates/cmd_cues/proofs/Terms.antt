-- The words of std, of the crates below and of the definitions that several proofs here name.
pub use Rattle.std.proofs.Common.{◌≡◌, ℕ, ◌+◌, ◌<◌, ◌≤◌, ◌==◌, List, [], ◌∷◌, ◌++◌, length, get_or}
pub use Rattle.std.proofs.Common.{suc, false, cond, nat_eq, take, ap, sym, ◌∙◌, arith, append_assoc}
pub use Rattle.std.proofs.Common.{length-take, codes, flat_map, ◌&&◌, true, reverse, refl, subst}
pub use Rattle.std.proofs.Common.{Option, Some, None, replicate, map, rules, ◌-◌, drop, option_map}
pub use Rattle.std.proofs.Common.{IfOk}
pub use Rattle.std.specs.Prelude.{if◌then◌else◌, option_to_list, unwrap_or, decimal}
pub use Rattle.std.proofs.lemmas.Bool.Decides.{nat_tests}
pub use Rattle.std.proofs.lemmas.Grind.{flat_map-append}
pub use Rattle.std.proofs.lemmas.List.{append-nil, take_all, take_more, replicate_more}
pub use Rattle.std.proofs.lemmas.List.{get_or_default, length-map, map-append, take_min}
pub use Rattle.cmd_cues.specs.Json.{array_text, items_text, json_text, string_text, cue_object}
pub use Rattle.cmd_cues.specs.Json.{dimmer_object, master_object, string_byte, universe_object}
pub use Rattle.std.specs.Option.{option_or}
pub use Rattle.std.proofs.lemmas.List.Sums.{fold-append}
pub use mathlib.Core.List.{reverse_aux}
pub use Rattle.ascii_text.specs.Text.{is_word, lines_of, numbered_from, words_of, is_bang}
pub use Rattle.ascii_text.specs.Text.{is_separator}
pub use Rattle.show_line.specs.declared.line.Reading.{Reading}
pub use Rattle.show_line.specs.declared.statement.Record.{Record}
pub use Rattle.show_line.specs.declared.statement.Statement.{Statement}
pub use Rattle.show_line.specs.declared.statement.Statement.TheVariants.{Opens, Quiet}
pub use Rattle.show_line.specs.Keywords.{may_own}
pub use Rattle.show_line.specs.Said.{desk_limits, record_opened, line_reading}
pub use Rattle.show_reader.specs.Meaning.{Is, Silent, after, same_record}
pub use Rattle.show_reader.specs.Text.{Words, owner_after, owner_below, said_under, statements_of}
pub use Rattle.cmd_explain.specs.Headings.{begins_with_word, keyword_in}
pub use Rattle.cmd_explain.specs.Skipped.{words_in}
pub use Rattle.cmd_explain.proofs.Lines.{FirstRead, all_read, no_line, no_more, one_line}
pub use Rattle.cmd_explain.proofs.Lines.{reading_is}
pub use Rattle.cmd_cues.specs.declared.label_line.LabelKind.{LabelKind}
pub use Rattle.cmd_cues.specs.declared.label_line.LabelKind.TheVariants.{Text, Comment}
pub use Rattle.cmd_cues.specs.declared.label_line.LabelLine.{LabelLine}
pub use Rattle.cmd_cues.specs.Labels.{label_after, label_news_of, label_part, last_label, names}
pub use Rattle.cmd_cues.specs.Labels.{label_in, is_edge}
pub use Rattle.cmd_cues.specs.LabelLines.{AreOf, label_by, label_if, last_label_by, line_news}
pub use Rattle.cmd_cues.specs.LabelLines.{news_in}
pub use Rattle.show_core.specs.Tables.{Tables}
pub use Rattle.show_reader.specs.Reading.{lines_read}
pub use Rattle.show_reader.specs.Shows.{IsShowOf}
pub use Rattle.show_reader.proofs.OneShow.{of_its_show}
pub use Rattle.cmd_cues.specs.Prints.{IsCueJson, IsCueTable}
pub use Rattle.cmd_cues.specs.Table.{table_text, label_cell, cue_table_line, cell}
pub use Rattle.cmd_cues.specs.Table.{master_table_line, universe_table_line}
pub use Rattle.cmd_cues.specs.Rows.{cue_row, dimmer_count}
pub use Rattle.cmd_explain.proofs.Ascending.{entry_at}
unfoldable pub use Rattle.hex.specs.Hex.{encode_with}
pub use Rattle.show_line.specs.declared.statement.Record.TheVariants.{Cue}
pub use Rattle.cmd_cues.specs.Masters.{record_in, masters_head}
pub use Rattle.std.specs.List.{position_or_len, suffix_len, prefix_len}
pub use Rattle.ascii_text.specs.LinesLeft.{lines_left}
pub use Rattle.std.proofs.Math.Nat.{min_comm}
