-- The words of std, of the crates below and of the definitions that several proofs here name.
pub use Rattle.std.proofs.Common.{◌≡◌, ℕ, ◌+◌, ◌*◌, ◌<◌, List, [], ◌∷◌, ◌++◌, length, get_or, take}
pub use Rattle.std.proofs.Common.{refl, sym, ap, ◌∙◌, arith, ◌≤◌, true, false, IsTrue, T, set, inl}
pub use Rattle.std.proofs.Common.{inr, subst, ◌-◌, drop}
pub use Rattle.std.specs.Prelude.{All, map, max, unwrap_or, ◌==◌}
pub use Rattle.std.specs.FinMap.{entries, find, is_sorted}
pub use Rattle.std.proofs.lemmas.List.{map-append, take_more, get_or-set_other, drop_more}
pub use Rattle.std.proofs.lemmas.List.{at_drop_all, length-set, get_or-replicate}
pub use Rattle.std.proofs.lemmas.List.Elements.{All-head, All-tail, All-weaker, All-set, All-get_or}
pub use Rattle.show_core.specs.Readers.{level_in}
pub use Rattle.show_core.specs.Tables.{LevelMap, MasterMap}
pub use Rattle.master_core.specs.Merged.{greatest, greatest_in, merged_after}
pub use Rattle.std.specs.Cmp.{unsigned_tied, ranks}
pub use Rattle.std.specs.Ordering.{nat_cmp, is_lt, MatchOrdering}
pub use Rattle.std.specs.declared.cmp.Ordering.{Ordering}
pub use Rattle.std.specs.FinMap.Entries.{below_all}
pub use Rattle.std.proofs.lemmas.Bool.{cases_eq}
pub use Rattle.std.proofs.lemmas.Bool.Decides.{nat_tests}
pub use Rattle.std.proofs.lemmas.Grind.{get_or-set_at, common_steps}
pub use Rattle.show_core.proofs.Sorted.{and_left, and_right, from_true, to_true}
pub use Rattle.show_core.specs.Numbers.{is_channel, AreLevels, is_sub, is_group}
pub use Rattle.show_core.proofs.Ranges.{entries_from_keys}
pub use Rattle.master_core.specs.Inside.{masters_view}
pub use Rattle.master_core.specs.Settings.{StandsFor, sub_after, group_after}
