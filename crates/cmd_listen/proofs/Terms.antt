-- The words of std, of the crates below and of the definitions that several proofs here name.
pub use Rattle.std.proofs.Common.{◌≡◌, Result, arith, ℕ, List, [], ◌∷◌, refl, ◌++◌, codes, length}
pub use Rattle.std.proofs.Common.{reverse, ap, ◌∙◌, zero, suc, ◌+◌, ◌<◌, ◌≤◌, min, sym, inl, inr}
pub use Rattle.std.proofs.Common.{map, take, drop, get_or, set, add-one, ◌-◌, Bool, true, false}
pub use Rattle.std.proofs.Common.{not, cond, flat_map, append-nil, append_assoc, max, ◌≢◌}
pub use Rattle.std.proofs.Common.{length-append, zero-add, ◌⊎◌, rules, take-append-drop}
pub use Rattle.std.specs.Result.{IfErr, IsErrAnd}
pub use Rattle.std.proofs.lemmas.Result.{err_from_is_err_and, on_ok_weaker}
pub use Rattle.cmd_listen.specs.declared.fault.WatchFault.{WatchFault}
pub use Rattle.std.specs.Option.{option_map_or, option_map, option_or}
pub use Rattle.sacn_packet.specs.Reading.{front_packet}
pub use Rattle.sacn_receiver.specs.declared.answer.Ignored.{Ignored}
pub use Rattle.sacn_receiver.specs.Source.{Entry, last_moment, is_accepted, is_taken, is_there}
pub use Rattle.sacn_receiver.specs.Source.{newest, record_of, records, same_cid}
pub use Rattle.sacn_receiver.specs.Taking.{accepted_entry, ignore_reason, is_termination}
pub use Rattle.sacn_receiver.specs.Taking.{source_reason, source_refusal, off_reason, answer}
pub use Rattle.sacn_receiver.specs.Taking.{history_after}
pub use Rattle.cmd_listen.specs.Listening.{history_at_0, listen_text, GaveAll, Listens}
pub use Rattle.cmd_listen.specs.Listening.{DeviceFailed, SlotsFailed, replies, reply_line}
pub use Rattle.cmd_listen.specs.Listening.{NextFails}
pub use Rattle.std.specs.Prelude.{Option, replicate, Ok, Err, bytes_eq, filter, find, nat_eq}
pub use Rattle.std.specs.Prelude.{nat_lt, Some, None, All, ◌==◌, ◌&&◌, ◌||◌, if◌then◌else◌, OnErr}
pub use Rattle.std.specs.Prelude.{OnOk, IfOk, IsOk, is_ok, decimal}
unfoldable pub use Rattle.std.specs.Fmt.{digits}
pub use Rattle.sacn_packet.specs.Layers.{dmp_layer, framing_layer, root_layer}
pub use Rattle.sacn_packet.specs.Name.{padded_name}
pub use Rattle.sacn_packet.specs.Wire.{Fields, WirePacket, HasPacket}
pub use Rattle.std.proofs.lemmas.Grind.{reverse_onto, common_steps}
pub use Rattle.devices.specs.Tape.{Tape, with_more, with_failure}
pub use Rattle.devices.proofs.Tapes.{with_more-twice, with_more-none}
pub use Rattle.sacn_receiver.specs.Kept.{ReceiverState, StandsFor}
pub use Rattle.sacn_receiver.specs.Shown.{shown_slots, live, greatest}
pub use Rattle.cmd_faults.specs.declared.fault.RunFault.{RunFault}
pub use Rattle.sacn_receiver.specs.Replies.{slots_line, receiver_reply}
pub use Rattle.std.proofs.lemmas.Bool.{cases_lt, not-true}
pub use Rattle.std.proofs.lemmas.List.{take_all, take_more, length-drop, map-append, length-map}
pub use Rattle.std.proofs.lemmas.List.{flat_map_more, drop-replicate, drop_more, take_at}
pub use Rattle.std.specs.List.{AllZip, list_any, enumerate_from}
pub use Rattle.std.proofs.lemmas.Bool.Decides.{nat_tests}
pub use Rattle.std.proofs.lemmas.List.Filters.{length-filter_both}
pub use Rattle.sacn_packet.specs.Faults.{fault_of}
pub use Rattle.sacn_receiver.specs.declared.answer.Ignored.TheVariants.{Backwards, Unreadable}
pub use Rattle.sacn_receiver.proofs.Apart.{find_records}
pub use Rattle.sacn_receiver.proofs.Members.{found_in, In_filter, In_length}
pub use Rattle.cmd_listen.specs.declared.instant.Instant.{Instant}
pub use Rattle.cmd_listen.specs.declared.source.Source.{Source}
pub use Rattle.cmd_listen.specs.Laws.{Mark, mark_in, mark_of, SourcesAreLive}
pub use Rattle.cmd_listen.specs.Sources.{source_of, with_source, without_cid, changes, line_head}
pub use Rattle.cmd_listen.specs.Sources.{here, left_line, news, is_here, packets_missed, is_of}
pub use Rattle.cmd_listen.specs.Sources.{name_byte}
pub use Rattle.cmd_listen.specs.Universe.{Knowledge, known_after, after_look, looked_after}
pub use Rattle.cmd_listen.specs.Universe.{after_datagram, met_after, new_known, sources_with}
pub use Rattle.cmd_listen.specs.Universe.{after_wait, counts_after, told_counts, told_text}
pub use Rattle.cmd_listen.specs.Universe.{universe_answer, counts_by, head, looked_text, met_text}
pub use Rattle.cmd_listen.specs.Universe.{sources_by, text_by, told_looked, waited_text}
pub use Rattle.std.proofs.lemmas.List.Elements.{All-map, All-weaker, All-cons}
pub use Rattle.cmd_listen.specs.Reading.{WatchLine, at, blank, malformed, spelled_in}
pub use Rattle.cmd_listen.specs.Watching.{WatchState, after_spelled, after_arrival, instant}
pub use Rattle.cmd_listen.specs.Watching.{after_instant, watch_after, arrived_text, last_instant}
pub use Rattle.cmd_listen.specs.Watching.{last_text, passed_text, universe_in, text_spelled}
pub use Rattle.cmd_listen.specs.Watching.{told_at}
pub use Rattle.cmd_listen.specs.declared.monitor.Monitor.{Monitor}
pub use Rattle.cmd_listen.specs.declared.watching.Watching.{Watching}
pub use Rattle.cmd_listen.specs.Ignored.{with_one_more, stray_place, ignored_place, count_line}
pub use Rattle.cmd_listen.specs.Stands.{MonitorsStand, MonitorStands}
pub use Rattle.std.proofs.lemmas.Slice.Eq.{bytes_eq-Decides}
pub use Rattle.sacn_receiver.specs.declared.answer.Taken.{Taken}
pub use Rattle.std.proofs.lemmas.List.Sums.{fold-append}
pub use Rattle.cmd_listen.specs.declared.fault.WatchFault.TheVariants.{Device, Line, Memory}
pub use Rattle.cmd_listen.specs.declared.stage.Stage.{Stage}
pub use Rattle.ascii_text.specs.Lines.{Cut, with_byte, with_last_lf, cut_of, no_bytes}
pub use Rattle.cmd_listen.specs.Lines.{AreWatchLines}
pub use Rattle.cmd_listen.specs.Runs.{EndsWatch, WatchLeaves, malformed_line, WatchEndsEarly}
pub use Rattle.cmd_listen.specs.Runs.{WatchesAll, late}
pub use Rattle.cmd_listen.specs.Stage.{EndsWatchAt, WatchHasEnded, WatchHasTaken, LeftBy}
pub use Rattle.cmd_listen.specs.Stage.{StageStandsFor, TellsLines, last_lf, LastTold, watch_room}
pub use Rattle.std.proofs.lemmas.List.FromFn.{get_or-enumerate_from, length-enumerate_from}
pub use Rattle.std.proofs.lemmas.List.Recursion.{max_push}
pub use Rattle.cmd_listen.specs.Spelled.{spelled_of}
