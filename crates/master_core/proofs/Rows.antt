-- What settings leave and what they make a channel, evaluated.
use Rattle.std.proofs.Common.{◌≡◌, ℕ, ◌*◌, List, [], ◌∷◌, refl, ap, ◌∙◌}
use Rattle.std.specs.Prelude.{map, max, unwrap_or}
use Rattle.std.specs.Ordering.{nat_cmp}
use Rattle.std.specs.Cmp.{nat_cmp_total}
use Rattle.std.specs.FinMap.{from_sorted, entries-from_sorted}
use Rattle.show_core.specs.Readers.{level_in}
use Rattle.show_core.specs.Tables.{LevelMap, MasterMap}
use Rattle.show_core.proofs.Sorted.{get_is}
use Rattle.master_core.specs.Merged.{greatest, greatest_in}
use Rattle.master_core.specs.Settings.{Setting, sub_setting, group_setting, grand_setting}
use Rattle.master_core.specs.Settings.{sub_after, group_after, grand_after}

-- one record that lists one channel
one_pair : ℕ → ℕ → LevelMap
one_pair channel byte = from_sorted ((channel, byte) ∷ [])

one_record : ℕ → ℕ → ℕ → MasterMap
one_record n channel byte = from_sorted ((n, one_pair channel byte) ∷ [])

level_in-one_pair : level_in (one_pair 5 255) 5 ≡ 255
unfolding one_pair
level_in-one_pair = ap (λ o. unwrap_or o 0) (get_is nat_cmp nat_cmp_total ((5, 255) ∷ []) refl 5)

half : List Setting
half = group_setting 3 128 ∷ grand_setting 9 ∷ group_setting 3 255 ∷ []

group_highest : greatest_in (one_record 3 5 255) (group_after half) 5 ≡ 32640
unfolding half one_record
group_highest =
    ap (λ l. greatest (map (λ e. level_in e.1 5 * group_after half e.0) l))
    (entries-from_sorted nat_cmp ((3, one_pair 5 255) ∷ []) tt)
    ∙ ap (λ x. max (x * 128) 0) level_in-one_pair

settings_of_each : (sub_after half 3 ≡ 0) × (group_after half 3 ≡ 128) × (group_after half 4 ≡ 0)
    × (grand_after half ≡ 9) × (grand_after [] ≡ 255)
    × (sub_after (sub_setting 1 128 ∷ half) 1 ≡ 128)
unfolding half
settings_of_each = (refl, refl, refl, refl, refl, refl)
