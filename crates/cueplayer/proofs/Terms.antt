-- The words of std, of the crates below and of the definitions that several proofs here name.
pub use Rattle.std.proofs.Common.{◌≡◌, ◌≤◌, ℕ, ◌++◌, refl, ap, sym, ◌∙◌, arith, List, [], ◌∷◌, map}
pub use Rattle.std.proofs.Common.{Ok, Err, append-nil, Option, Some, None, Result, inl, inr, ◌-◌}
pub use Rattle.std.proofs.Common.{◌+◌, ◌<◌, true, false, length, get_or, is_some, append_assoc}
pub use Rattle.std.proofs.Common.{subst, suc, fold, zero, drop, take-append-drop, ◌%◌, not, ◌⊎◌}
pub use Rattle.std.proofs.Common.{Bool, ◌&&◌}
pub use Rattle.std.specs.Prelude.{reverse, codes, is_none, if◌then◌else◌, nat_eq, IfSome, filter}
pub use Rattle.std.specs.Prelude.{max, ◌==◌, slice_get, slice_index, find, nat_lt, nat_le, IsTrue}
pub use Rattle.std.specs.Prelude.{Contains, All}
pub use Rattle.std.proofs.lemmas.List.{append_cancel_left, reverse-reverse, append_cancel_right}
pub use Rattle.std.proofs.lemmas.List.{get_or-map, length-map, drop-map, get_or-drop, length-drop}
pub use Rattle.std.proofs.lemmas.List.{get_or-replicate}
pub use Rattle.devices.specs.Tape.{Tape, with_more}
pub use Rattle.sacn_receiver.specs.Arrivals.{Arrival, heard_all, last_arrival, NeverFall, not_heard}
pub use Rattle.sacn_receiver.specs.Arrivals.{packets_heard}
pub use Rattle.sacn_receiver.specs.Shown.{shown_slots, shown_slot, merged_slot, Light, light_of}
pub use Rattle.sacn_receiver.specs.Shown.{greatest, leaders}
pub use Rattle.sacn_receiver.specs.Taking.{accepted_entry}
pub use Rattle.sacn_receiver.specs.Replies.{slots_line}
pub use Rattle.cmd_play.specs.Run.{sends_of_run, history_of, acts_after, acts_by, CarriedLine}
pub use Rattle.cmd_play.specs.Run.{Emission, Ran, dues_after, IsRun, IsRunFrom, dues_by}
pub use Rattle.cmd_play.specs.Run.{history_from, lines_of_run}
pub use Rattle.cmd_listen.specs.Listening.{listen_text, replies, history_at_0}
pub use Rattle.cueplayer.specs.Plays.{Play, IsPlay, play_history, stream_for, sends_for, play_at}
pub use Rattle.cueplayer.specs.Plays.{ArePlays, frame_for}
pub use Rattle.cueplayer.specs.Traffic.{arrivals_in, datagrams_in, Receipt, newest_of, IsInWindow}
pub use Rattle.cueplayer.specs.Traffic.{arrival_of_newest, IsFresh, is_silent, Traffic}
pub use Rattle.cueplayer.specs.Traffic.{TracedArrival, IsOrigin, AreOrigins, receipts}
pub use Rattle.cueplayer.specs.Traffic.{with_receipt, receipts_of, send_number}
pub use Rattle.cueplayer.specs.Programs.{ListenLaw, PlayToListen, IsNight, NightHeadline}
pub use Rattle.cueplayer.specs.Programs.{NightsArePlays, NightsAreTyped, HasPlayed, RunsArePlays}
pub use Rattle.cueplayer.specs.Programs.{DryRunsArePlays, PlaysArePlays}
pub use Rattle.ascii_text.specs.Text.{words_of}
pub use Rattle.console.specs.declared.call.Call.{Call}
pub use Rattle.console.specs.declared.call.Call.TheVariants.{Order, Tick}
pub use Rattle.console.specs.declared.reading.Reading.TheVariants.{At, Blank, Malformed}
pub use Rattle.console.specs.Spelling.{act_of, instruction_of, reading_of}
pub use Rattle.cmd_live.specs.Booth.{BoothState}
pub use Rattle.cmd_faults.specs.declared.fault.RunFault.{RunFault}
pub use Rattle.cmd_live.specs.Night.{LivedOn, Lives, Trace, answers_since, trace_of}
pub use Rattle.cmd_live.proofs.Living.{history_joined, history_since}
pub use Rattle.devices.specs.Send.{Send}
pub use Rattle.desk_core.specs.declared.answer.Refused.{Refused}
pub use Rattle.desk_core.specs.declared.command.Command.TheVariants.{End, Master}
pub use Rattle.desk_core.specs.declared.instruction.Instruction.{Instruction}
pub use Rattle.desk_core.specs.declared.instruction.Instruction.TheVariants.{Plain}
pub use Rattle.desk_core.specs.Meaning.{latest_frame, dark}
unfoldable pub use Rattle.desk_core.specs.Meaning.{frame, universe_numbers}
pub use Rattle.desk_core.specs.Played.{Act, order, refusal, ticks_since_end}
pub use Rattle.show_core.specs.Tables.{Tables, PatchMap}
pub use Rattle.live_input.specs.Keys.{without_keys}
pub use Rattle.live_input.specs.Laws.{accepted_acts}
pub use Rattle.live_input.specs.Night.{Answer, Happening, answer_to, answers, behind_moment}
pub use Rattle.live_input.specs.Night.{lines_given, with_given}
pub use Rattle.live_input.specs.Recall.{recall_of, AreRecalled, IsRecalled}
pub use Rattle.live_input.proofs.Fine.{spelled}
pub use Rattle.live_input.proofs.Recalling.{recalled_lines}
pub use Rattle.cueplayer.specs.Restarts.{RestartHeadline, new_play, play_on, RecordsAreTakenUp}
pub use Rattle.cueplayer.specs.Restarts.{AreFew, BreaksArePlays, PlaysGoOn, AllMean, IsTwin}
pub use Rattle.cueplayer.specs.Restarts.{MeansOne, TakesOver, TwinsLight}
pub use Rattle.std.specs.List.{range_with_len, AllPairs, list_any, list_all}
pub use Rattle.std.specs.Ordering.{nat_cmp, eq_by_cmp}
pub use Rattle.std.proofs.lemmas.Bool.Decides.{nat_tests}
pub use Rattle.std.proofs.lemmas.List.Folds.{list_any_at, list_any_none}
pub use Rattle.patch_core.proofs.Frames.{same_key}
pub use Rattle.show_core.specs.Readers.{has_dimmer_in, ordinal_of}
pub use Rattle.show_line.specs.Said.{desk_limits}
pub use Rattle.show_reader.specs.Keys.{Dimmer}
pub use Rattle.show_reader.specs.Reading.{text_fault}
pub use Rattle.show_reader.specs.Shows.{IsShowOf}
pub use Rattle.show_reader.specs.Text.{statements_of}
pub use Rattle.show_reader.proofs.Limits.{reads_alike}
pub use Rattle.show_reader.proofs.OneShow.{same_show}
pub use Rattle.cueplayer.specs.OldShows.{MeanAlike, old_limits}
pub use Rattle.console.specs.Offering.{AreOffered, none, quiet, sent}
pub use Rattle.console.specs.Streams.{Production, Due, due_at, dues_at, universes_of}
pub use Rattle.cmd_play.specs.declared.fault.PlayFault.{PlayFault}
pub use Rattle.ascii_text.specs.Lines.{Cut, cut_of, with_byte}
pub use Rattle.cmd_play.specs.Play.{PlayEndsEarly}
pub use Rattle.cmd_play.specs.Stage.{PlayLeaves}
pub use Rattle.sacn_source.specs.Stream.{Packet}
pub use Rattle.wire_world.specs.Delivery.{Delivery}
pub use Rattle.wire_world.specs.Laws.{IsFreshIn, is_live}
pub use Rattle.std.proofs.lemmas.Bool.{cond_both, eq-eqb, eqb-true, cond-true, lt-ltb, le-ltb}
pub use Rattle.std.proofs.lemmas.Bool.{ltb-true, and_parts, cases_lt}
pub use Rattle.std.proofs.lemmas.List.Sums.{fold-append}
pub use Rattle.live_input.proofs.Records.{records_recalled}
pub use Rattle.std.specs.Option.{option_map, option_to_list}
pub use Rattle.std.proofs.lemmas.List.Elements.{All-contains, All-map}
pub use Rattle.std.proofs.lemmas.List.Kept.{AllPairs-from_increasing}
pub use Rattle.patch_core.specs.Frame.{is_universe}
pub use Rattle.desk_core.proofs.Universes.{numbers_in, numbers_rise}
pub use Rattle.sacn_source.specs.Identity.{Identity}
pub use Rattle.sacn_source.specs.declared.offered.Offered.{Offered}
pub use Rattle.sacn_source.specs.declared.offered.Offered.TheVariants.{Quiet}
pub use Rattle.sacn_source.specs.Offering.{answer_of}
pub use Rattle.sacn_source.proofs.Streams.{HoldsFull}
pub use Rattle.sacn_receiver.proofs.Members.{In, by_test, in_from_place, In_map, place_from_in}
pub use Rattle.sacn_receiver.proofs.Members.{In_mapped, in_from_get_or, In_filter, In_filtered}
pub use Rattle.console.specs.declared.reading.Reading.{Reading}
unfoldable pub use Rattle.wire_world.specs.Datagrams.{packet_bytes}
pub use Rattle.wire_world.specs.Sends.{packet_run, sent_to}
pub use Rattle.wire_world.specs.World.{IsConsole, plays}
pub use Rattle.wire_world.proofs.Linked.{sent_due, sent_more, stream_ticked, numbered_at}
pub use Rattle.wire_world.proofs.Wire.{is_data, played_in, IsSendable, source_of, unheard_there}
pub use Rattle.wire_world.proofs.Wire.{bytes_are, heard_here, entry_is, entry}
pub use Rattle.std.proofs.lemmas.Option.{slice_get_within, get_or_from_slice_get, same_Some}
pub use Rattle.sacn_source.specs.Identify.{options_of}
pub use Rattle.wire_world.specs.Happened.{packets_of}
pub use Rattle.cueplayer.specs.Laws.{SendsAreTheStream, SendsAreAddressed, Headline, MergeLaw}
pub use Rattle.cueplayer.specs.Laws.{light, lights, IsSend, IsSendOf, AreSettled, HearsOne}
pub use Rattle.cueplayer.specs.Laws.{HearsAll, UnpatchedSlotsAreZero, SendsStay, WindowLaw}
pub use Rattle.cueplayer.specs.Laws.{SilenceIsDark, IsOneOf, is_lit}
pub use Rattle.std.proofs.lemmas.List.FromFn.{get_or-map-range_with_len, length-range_with_len}
pub use Rattle.std.proofs.lemmas.List.FromFn.{get_or-range_with_len, length-map-range_with_len}
pub use Rattle.sacn_packet.specs.Reading.{front_packet}
pub use Rattle.sacn_receiver.specs.declared.answer.Ignored.{Ignored}
pub use Rattle.sacn_receiver.specs.Laws.{accepted_packets}
pub use Rattle.sacn_receiver.proofs.Independent.{heard_accepted, sources_independent}
pub use Rattle.desk_core.proofs.FrameSlots.{latest_full, unpatched_latest}
pub use Rattle.console.proofs.Streams.{latest}
pub use Rattle.wire_world.proofs.Came.{AreInTime, later_too, own, own_from, In_accepted, Coming}
pub use Rattle.wire_world.proofs.Came.{own_in_time}
pub use Rattle.wire_world.proofs.Shown.{same_slots, dark_slots, one_light, KeptOne, kept_of, history}
pub use Rattle.wire_world.proofs.Shown.{lit_by, shown_lit, silent_at, fresh_parts}
pub use Rattle.std.specs.Str.{bytes_eq}
pub use Rattle.std.proofs.lemmas.Cmp.{nat_list_eq_equiv}
pub use Rattle.sacn_receiver.specs.Source.{Entry, same_cid, is_there}
pub use Rattle.sacn_receiver.proofs.Same.{In_le}
