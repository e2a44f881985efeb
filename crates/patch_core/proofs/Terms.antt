-- The words of std, of the crates below and of the definitions that several proofs here name.
pub use Rattle.std.proofs.Common.{◌≡◌, ◌≢◌, ℕ, ◌+◌, ◌<◌, ◌≤◌, true, false, IsTrue, List, [], ◌∷◌}
pub use Rattle.std.proofs.Common.{◌++◌, length, get_or, take, drop, None, refl, arith, ◌-◌, set}
pub use Rattle.std.proofs.Common.{Some, cond, sym, ◌∙◌, replicate, zero, suc, ◌*◌, ap, inl, inr, T}
pub use Rattle.std.proofs.Common.{◌/◌, ◌%◌, nat_eq, Option, max, Bool, ltb, w8, rules, of_calls}
pub use Rattle.std.proofs.Common.{subst, ◌⊎◌}
pub use Rattle.std.specs.Prelude.{All, map, slice_get, Contains, if◌then◌else◌}
pub use Rattle.std.specs.List.{AllWithin, range_with_len}
pub use Rattle.std.specs.List.Sorted.{IsNonDecreasingBy}
pub use Rattle.std.specs.Ordering.{nat_cmp, eq_by_cmp}
pub use Rattle.std.specs.Cmp.{nat_cmp_total, unsigned_tied}
pub use Rattle.std.specs.FinMap.{FinMap, find, is_sorted, entries, entries_sorted, from_sorted}
pub use Rattle.std.specs.FinMap.{entries-from_sorted, same_entries_map}
pub use Rattle.std.specs.declared.cmp.Ordering.TheVariants.{Less}
pub use Rattle.std.proofs.lemmas.Bool.Decides.{nat_tests}
pub use Rattle.std.proofs.lemmas.List.{get_or-take, get_or-drop, length-drop, length-take}
pub use Rattle.std.proofs.lemmas.List.{ext_get_or, get_or_default, take_more, take-append-drop}
pub use Rattle.std.proofs.lemmas.List.{get_or-replicate, get_or-set_other, drop-drop}
pub use Rattle.std.proofs.lemmas.List.{drop-replicate, take-replicate, get_or_append_left}
pub use Rattle.std.proofs.lemmas.List.{length-set, with_items_is}
pub use Rattle.std.proofs.lemmas.List.Elements.{All-head, All-tail, All-from_get_or, All-get_or}
pub use Rattle.std.proofs.lemmas.List.Elements.{All-map}
pub use Rattle.show_core.proofs.Sorted.{sorted_at, from_true, find_at, get_is, to_true, entries_are}
pub use Rattle.std.specs.Option.{option_map_or}
pub use Rattle.std.specs.FinMap.Entries.{find-append}
pub use Rattle.std.proofs.lemmas.Grind.{get_or-set_at}
pub use Rattle.std.proofs.lemmas.List.FromFn.{length-map-range_with_len, get_or-map-range_with_len}
pub use Rattle.std.specs.Simd.{first_chunks}
pub use Rattle.patch_core.specs.Frame.{dimmer_slot, frame_of, AreDrawn, listed_level}
unfoldable pub use Rattle.patch_core.specs.Frame.{frames_in}
pub use Rattle.std.proofs.lemmas.Bool.{cases_lt, cond_both, cases_eq, ltb-true, ltb-false}
pub use Rattle.std.proofs.Math.Seq.{get_or-append_seam}
pub use Rattle.std.proofs.lemmas.List.Sorted.{All-permutation, Contains-permutation}
pub use Rattle.std.proofs.lemmas.List.Sorted.{IsPartitionedBy-ltb}
pub use Rattle.std.proofs.lemmas.List.Sorted.{IsNonDecreasingBy-from_sort_by_key}
pub use Rattle.std.proofs.lemmas.List.Sorted.{length_permutation}
pub use Rattle.std.proofs.lemmas.Map.Lookups.{exact_unsigned}
pub use Rattle.std.proofs.lemmas.Map.Views.{tells_apart}
pub use Rattle.show_core.specs.Tables.{PatchMap}
pub use Rattle.patch_core.specs.Index.{IsIndex, dimmer_at, channel_at, byte_at, slot_at, IsBegin}
pub use Rattle.show_core.specs.Numbers.{is_channel, is_dimmer}
pub use Rattle.show_core.specs.Readers.{slot_of}
pub use Rattle.show_core.proofs.Ranges.{value_in, len_fits}
pub use Rattle.std.proofs.lemmas.Option.{get_or_from_slice_get}
pub use Rattle.patch_core.specs.Sources.{AreSources, AreBytesOf}
pub use Rattle.std.specs.Simd.Lanes.{zip2, sel_l, chunk, put_chunk}
pub use Rattle.std.proofs.lemmas.Simd.{length-zip2, get_or-zip2, length-sel_l, get_or-sel_l}
pub use Rattle.std.proofs.lemmas.Simd.{get_or-chunk, get_or-put_chunk_at, tops_compared}
pub use Rattle.std.proofs.lemmas.Simd.{length-chunk, get_or-put_chunk_below, get_or-put_chunk_above}
pub use Rattle.patch_core.specs.declared.sources.Bytes.TheVariants.{Dark, Mixed}
pub use Rattle.std.proofs.lemmas.Fn.{always_returns_same}
pub use Rattle.std.specs.Vec.{with_items}
