-- The words of std, of the crates below and of the definitions that several proofs here name.
pub use Rattle.std.proofs.Common.{◌≡◌, ℕ, ◌+◌, ◌*◌, ◌<◌, Bool, true, false, ◌&&◌, IsTrue, List, []}
pub use Rattle.std.proofs.Common.{◌∷◌, length, Option, Some, None, is_some, refl, subst, ap, ◌∙◌}
pub use Rattle.std.proofs.Common.{arith, ◌≤◌, sym, ◌++◌, ◌-◌, get_or, rules, ◌/◌, take, lit<}
pub use Rattle.std.specs.Prelude.{All, IfSome, max, map, replicate, slice_get, slice_index}
pub use Rattle.std.specs.Prelude.{Contains, Result, Ok, Err, IsOk, OnOk}
pub use Rattle.std.specs.List.{range_with_len}
pub use Rattle.std.specs.Option.{option_map_or}
pub use Rattle.std.proofs.lemmas.List.{length-replicate, get_or-replicate, get_or-map, length-map}
pub use Rattle.std.proofs.lemmas.List.{with_items_is, take_all, take_more, map-append}
pub use Rattle.std.proofs.lemmas.List.{length-take-le}
pub use Rattle.std.proofs.lemmas.Option.{slice_get-get_or, get_or_from_slice_get}
pub use Rattle.show_core.specs.Numbers.{is_channel, AreLevels}
pub use Rattle.show_core.specs.Readers.{slot_of, has_dimmer_in, patch_ordinals, IsInRange}
pub use Rattle.show_core.specs.Tables.{PatchMap, Tables, LevelMap}
pub use Rattle.show_core.proofs.Ranges.{value_in}
pub use Rattle.playback_core.specs.Played.{playback_level, Move, moves_by}
unfoldable pub use Rattle.playback_core.specs.Played.{with_due}
pub use Rattle.master_core.specs.Merged.{greatest_in, merged_after}
pub use Rattle.master_core.specs.Settings.{sub_after, group_after, grand_after, Setting}
pub use Rattle.patch_core.specs.Frame.{listed_level, dimmer_slot, frame_of, AreDrawn}
unfoldable pub use Rattle.patch_core.specs.Frame.{is_base}
pub use Rattle.patch_core.specs.Frame.{is_universe}
unfoldable pub use Rattle.patch_core.specs.Frame.{frames_in}
pub use Rattle.desk_core.specs.declared.command.Command.TheVariants.{Go, Back, Goto, Sub, Group}
pub use Rattle.desk_core.specs.declared.command.Command.TheVariants.{Master, End}
pub use Rattle.desk_core.specs.declared.instruction.Instruction.{Instruction}
pub use Rattle.desk_core.specs.declared.instruction.Instruction.TheVariants.{Plain, GotoIn}
pub use Rattle.std.proofs.lemmas.Bool.{false≢true, cond_both}
pub use Rattle.desk_core.specs.Stands.{keeps_floors, StandsFor}
pub use Rattle.desk_core.specs.Meaning.{dark, channel_level, latest_frame}
unfoldable pub use Rattle.desk_core.specs.Meaning.{frame, universe_numbers}
pub use Rattle.playback_core.proofs.Due.{with_due-again, with_due-none}
pub use Rattle.desk_core.specs.Played.{Act, order, tick, ticks_since_end, moves, settings, Call}
pub use Rattle.std.proofs.lemmas.List.FromFn.{length-map-range_with_len, get_or-map-range_with_len}
pub use Rattle.std.proofs.lemmas.List.FromFn.{length-range_with_len, get_or-range_with_len}
pub use Rattle.fade_core.specs.Level.{Start}
unfoldable pub use Rattle.fade_core.specs.Level.{split_fade}
pub use Rattle.playback_core.specs.Playing.{PlaybackState}
pub use Rattle.playback_core.proofs.Places.{none_made, is_by-before, move_to}
pub use Rattle.desk_core.specs.DeskState.{DeskState}
pub use Rattle.desk_core.specs.Ticks.{IsKeptBut}
pub use Rattle.std.specs.Ordering.{nat_cmp}
pub use Rattle.show_core.specs.declared.cue.CueData.{CueData}
pub use Rattle.std.specs.List.Sorted.{IsStrictlyIncreasing}
pub use Rattle.std.proofs.lemmas.Bool.Decides.{nat_tests}
pub use Rattle.std.proofs.lemmas.List.Elements.{All-map, All-filter, All-contains, All-get_or}
pub use Rattle.std.proofs.lemmas.List.Kept.{IsStrictlyIncreasing-filter}
pub use Rattle.std.proofs.lemmas.List.Sums.{AllPass-from_list_all}
pub use Rattle.show_core.proofs.Sorted.{and_right, from_true, to_true}
pub use Rattle.std.specs.Vec.{with_items}
pub use Rattle.patch_core.proofs.InARow.{dark_in_a_row, chunks_are}
pub use borrow.Author.Rules.{scaled_Fits}
pub use Rattle.patch_core.proofs.Redrawn.{channel_range}
pub use Rattle.std.proofs.lemmas.Grind.{common_steps}
