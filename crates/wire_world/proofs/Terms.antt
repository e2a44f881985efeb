-- The words that several proof files name, passed on from one place. Declares nothing.
pub use Rattle.console.specs.Streams.{Production, universes_of}
pub use Rattle.desk_core.specs.Played.{Act, Call, outcome, refusal}
pub use Rattle.desk_core.specs.declared.answer.Refused.{Refused}
pub use Rattle.fade_core.specs.Level.{Start}
unfoldable pub use Rattle.wire_world.specs.Datagrams.{packet_bytes}
pub use Rattle.wire_world.specs.Happened.{accepted_by, acts, bytes_of, console_call, datagram}
pub use Rattle.wire_world.specs.Happened.{datagram_to, packets_sent, stream, unless_refused}
pub use Rattle.wire_world.specs.Shelves.{IsRest, gone_of, shelf_packets}
pub use Rattle.wire_world.specs.StageStands.{LinkTells, StageStands}
pub use Rattle.wire_world.specs.Stands.{AllAre, AllHear, AllTell, ConsolesStand, HasOpened}
pub use Rattle.wire_world.specs.Stands.{HasReplayed, SendersAreSources, cast, world_of}
pub use Rattle.wire_world.specs.World.{IsIdentity, IsWorld, World, console_at, no_console, plays}
pub use Rattle.wire_world.specs.World.{universe_at}
pub use Rattle.wire_world.specs.declared.happening.Happening.{Happening}
pub use Rattle.wire_world.specs.declared.happening.Occurrence.{Occurrence}
pub use Rattle.wire_world.specs.declared.happening.Occurrence.TheVariants.{Deliver, Order, Show, Stray}
pub use Rattle.wire_world.specs.declared.reply.Reply.{Reply}
pub use Rattle.wire_world.specs.declared.reply.Skip.{Skip}
pub use Rattle.wire_world.specs.declared.setup.Setup.{Setup}
pub use Rattle.wire_world.specs.declared.shelf.Shelf.{Shelf}
pub use Rattle.wire_world.specs.declared.stage.Stage.{Stage}
pub use Rattle.sacn_packet.specs.Reading.{front_packet}
pub use Rattle.sacn_receiver.specs.Shown.{shown_slots}
pub use Rattle.sacn_receiver.specs.declared.answer.Ignored.{Ignored}
pub use Rattle.sacn_source.proofs.Streams.{HoldsFull}
pub use Rattle.sacn_source.specs.Identity.{Identity}
pub use Rattle.sacn_source.specs.Stream.{Packet}
pub use Rattle.show_core.specs.Tables.{Tables}
pub use Rattle.std.proofs.Math.ListN.{length-set}
pub use Rattle.std.proofs.lemmas.Bool.Decides.{nat_tests}
pub use Rattle.std.proofs.lemmas.Cmp.{nat_list_eq_equiv}
pub use Rattle.std.proofs.lemmas.Grind.{common_steps}
pub use Rattle.std.proofs.lemmas.List.Elements.{All-cons, All-map}
pub use Rattle.std.proofs.lemmas.Option.{get_or_from_slice_get, same_Some, slice_get-get_or}
pub use Rattle.std.proofs.lemmas.Option.{slice_get_read, slice_get_within}
pub use Rattle.std.proofs.lemmas.Result.{IfOk-weaker}
pub use Rattle.std.specs.List.{list_all, position, range_with_len}
pub use Rattle.std.specs.Option.{option_map, option_map_or, option_or}
pub use Rattle.std.specs.Result.{result_err}
pub use borrow.Author.Rules.{scaled_Fits}
