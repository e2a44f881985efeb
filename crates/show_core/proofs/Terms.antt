-- The words of std, of the crates below and of the definitions that several proofs here name.
pub use Rattle.std.proofs.Common.{◌≡◌, ℕ, List, [], ◌∷◌, Some, None, true, false, cond, refl, sym}
pub use Rattle.std.proofs.Common.{ap, ◌∙◌, ◌≢◌, zero, suc, ◌+◌, ◌-◌, ◌<◌, ◌≤◌, ◌==◌, Bool, not}
pub use Rattle.std.proofs.Common.{IsTrue, T, ◌++◌, length, get_or, set, take, count_by, Option}
pub use Rattle.std.proofs.Common.{arith, inl, inr, append_assoc, drop, subst, is_some, ◌&&◌, Result}
pub use Rattle.std.proofs.Common.{Ok, Err, IfOk, IfErr, append-nil, vec_len, vec_capacity, rules}
pub use Rattle.std.proofs.Common.{of_calls, ltb, IsSome, ◌*◌}
pub use Rattle.std.specs.Option.{option_map_or, option_to_list, OnSome}
pub use Rattle.std.specs.Ordering.{nat_cmp, is_eq, eq_by_cmp, is_lt, ordering_index}
pub use Rattle.std.specs.Ordering.{ordering_reverse}
pub use Rattle.std.specs.Cmp.{nat_cmp_total, tied_itself, IsTotalOrder, alike_right}
pub use Rattle.std.specs.Cmp.{eq_by_cmp_equiv}
pub use Rattle.std.proofs.lemmas.Map.Views.{tells_apart}
pub use Rattle.std.proofs.lemmas.Map.Lookups.{exact_unsigned}
pub use Rattle.show_core.specs.Tables.{CueMap, MasterMap, LevelMap, PatchMap, Tables}
pub use Rattle.show_core.specs.Builders.{with_change, with_bytes, with_levels, with_all_listed}
pub use Rattle.show_core.specs.Builders.{patched_with, all_patched, with_cue, can_open, opened_in}
pub use Rattle.show_core.specs.Builders.{can_patch}
pub use Rattle.show_core.specs.Cues.{blank, TimeName, time_named, time_in, cue_with_time, IsRateInRange}
pub use Rattle.show_core.specs.Cues.{IsTimeInRange, HasTimes}
pub use Rattle.std.specs.Option.{option_or}
pub use Rattle.std.specs.Prelude.{All, filter, nat_lt, option_map, IfSome, map, reverse}
pub use Rattle.std.specs.List.{list_all, list_any, remove, insert, range_with_len}
pub use Rattle.std.specs.FinMap.Entries.{below_all, find-put, find-append, by_order, find-where_key}
pub use Rattle.std.specs.FinMap.Entries.{is_sorted-where_key, is_sorted-put}
pub use Rattle.std.specs.declared.cmp.Ordering.TheVariants.{Less, Equal, Greater}
pub use Rattle.std.proofs.lemmas.Bool.{cases_lt}
pub use Rattle.std.proofs.lemmas.Bool.Decides.{nat_tests}
pub use Rattle.std.proofs.lemmas.List.{drop_more, take_more, length-set, get_or-set_same}
pub use Rattle.std.proofs.lemmas.List.{get_or-set_other, get_or_default, reverse-append, map-append}
pub use Rattle.std.proofs.lemmas.List.{length-map, map-id, take_all, get_or_read, ext_get_or}
pub use Rattle.std.proofs.lemmas.List.Elements.{All-head, All-tail, All-map, All-same, All-push}
pub use Rattle.std.proofs.lemmas.List.Elements.{All-nil, All-cons, All-weaker, All-filter, All-more}
pub use Rattle.std.proofs.lemmas.List.Elements.{filter-append}
pub use Rattle.std.proofs.lemmas.List.Sums.{sum_by-cons}
pub use Rattle.show_core.specs.Numbers.{is_channel, is_dimmer, is_sub, is_group, is_cue_number, is_time}
pub use Rattle.show_core.specs.Numbers.{is_within}
pub use Rattle.show_core.specs.Place.{without, IsAt, IsGap}
pub use Rattle.show_core.specs.Many.{with_entry, with_entries, with_all, IsTableOf}
pub use Rattle.show_core.specs.declared.cue.CueData.{CueData}
pub use Rattle.show_core.specs.declared.cue.CueTime.{CueTime}
pub use Rattle.show_core.specs.declared.rate.Rate.{Rate}
pub use Rattle.show_core.specs.Readers.{IsInRange, rate_of, ordinal_of}
pub use Rattle.show_core.specs.Readers.{look_slot, has_dimmer_in}
pub use Rattle.std.specs.List.Sorted.{IsNonDecreasingBy, IsSearchInRange, IsBinarySearchResult}
pub use Rattle.std.specs.FinMap.{is_sorted, find, put, from_sorted, get, entries, get-from_sorted}
pub use Rattle.std.specs.FinMap.{entries-from_sorted, entries-insert, same_entries_map, empty}
pub use Rattle.std.specs.FinMap.{empty_of_len, len-entries}
pub use Rattle.std.proofs.lemmas.List.Folds.{list_any_at, list_any_none}
pub use Rattle.std.specs.declared.cmp.Ordering.{Ordering}
pub use Rattle.std.proofs.lemmas.List.Sorted.{searchable_from_sorted, IsPartitionedBy-ltb}
pub use Rattle.std.proofs.lemmas.List.Sorted.{answers_always}
pub use Rattle.show_core.specs.Keys.{IsNumbered, entries_by_number}
pub use Rattle.std.proofs.lemmas.Fn.{always_returns_same}
pub use Rattle.std.proofs.lemmas.List.Edits.{insert_end, fill_by_more}
pub use Rattle.show_core.specs.Inside.{show_view}
pub use Rattle.std.proofs.lemmas.Grind.{common_steps}
pub use Rattle.std.proofs.lemmas.List.FromFn.{length-map-range_with_len, get_or-map-range_with_len}
pub use Rattle.arrayvec.specs.ArrayVec.{array_vec_len}
