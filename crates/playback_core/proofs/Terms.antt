-- The words of std, of the crates below and of the definitions that several proofs here name.
pub use Rattle.std.proofs.Common.{◌≡◌, ℕ, ◌<◌, ◌≤◌, List, [], ◌∷◌, length, Some, None, refl, arith}
pub use Rattle.std.proofs.Common.{Bool, true, Option, ◌-◌, ◌*◌, inl, IsTrue, get_or, false, sym}
pub use Rattle.std.proofs.Common.{◌∙◌, is_some, rules}
pub use Rattle.std.specs.Prelude.{find, nat_lt, IfSome, reverse, Result, map, All, unwrap_or}
pub use Rattle.std.specs.Prelude.{option_map, IfNone}
pub use Rattle.std.proofs.lemmas.Bool.Decides.{nat_tests}
pub use Rattle.show_core.specs.Tables.{Tables, CueMap, LevelMap}
pub use Rattle.playback_core.specs.Placed.{count_above, IsPlaceAfter, cues_above}
pub use Rattle.playback_core.specs.Played.{Move, next_move, with_follow_ons, current_after}
unfoldable pub use Rattle.playback_core.specs.Played.{with_due}
pub use Rattle.playback_core.specs.Played.{goto_target, moves_by, start_of, cue_at, up_rate, down_rate}
pub use Rattle.playback_core.specs.Played.{playback_level, playback_target, due_moment, is_by}
pub use Rattle.playback_core.specs.Played.{back_target, go_target}
pub use Rattle.std.specs.List.{list_any}
pub use Rattle.std.specs.Option.{ok_or}
pub use Rattle.std.specs.Ordering.{nat_cmp, eq_by_cmp}
pub use Rattle.std.specs.Cmp.{unsigned_tied}
pub use Rattle.std.specs.FinMap.{contains_key-keys, get-entries, is_sorted, entries_sorted}
pub use Rattle.std.proofs.lemmas.List.{reverse-append, get_or-map, length-map}
pub use Rattle.std.proofs.lemmas.List.Folds.{list_any-append}
pub use Rattle.show_core.specs.Readers.{cue_above, cue_below, level_in, HasChannels}
pub use Rattle.fade_core.specs.Level.{Start, level_after, IsTowards}
pub use Rattle.playback_core.specs.declared.playback.NoMove.{NoMove}
pub use Rattle.playback_core.specs.declared.playback.NoMove.TheVariants.{NoCue, AtStart, AtEnd}
pub use Rattle.playback_core.specs.Playing.{PlaybackState}
pub use Rattle.playback_core.specs.Stands.{Moves, StandsFor, Steps}
pub use Rattle.fade_core.proofs.Fade.{split_fade_towards}
pub use Rattle.show_core.specs.Numbers.{is_channel}
pub use Rattle.show_core.proofs.Sorted.{to_true}
pub use Rattle.playback_core.specs.declared.place.Place.{Place}
pub use Rattle.std.proofs.lemmas.Option.{IfSome_then}
