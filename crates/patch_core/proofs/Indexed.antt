-- The dimmers by their channels: those of a channel lie between two places, and are those that the
-- patch has.
use Rattle.patch_core.proofs.Terms.{◌≡◌, ℕ, zero, suc, ◌+◌, ◌-◌, ◌<◌, ◌≤◌, inl, inr, T, List, [], ◌∷◌}
use Rattle.patch_core.proofs.Terms.{◌++◌, length, get_or, Some, refl, sym, ap, ◌∙◌, arith, All, Contains}
use Rattle.patch_core.proofs.Terms.{nat_cmp, eq_by_cmp, nat_cmp_total, find, cases_lt, cond_both}
use Rattle.patch_core.proofs.Terms.{nat_tests, get_or-append_seam, get_or_default, get_or_append_left}
use Rattle.patch_core.proofs.Terms.{All-permutation, Contains-permutation, exact_unsigned, tells_apart}
use Rattle.patch_core.proofs.Terms.{PatchMap, sorted_at, find_at, IsIndex, dimmer_at, channel_at}
use Rattle.patch_core.proofs.Terms.{byte_at}
use Rattle.std.specs.FinMap as map

module _ {V : Type 0} where
  -- each entry is found by its key
  found_all : (es : List (ℕ × V)) → T (map.is_sorted nat_cmp es)
      → All (λ e. find nat_cmp e.0 es ≡ Some e.1) es
  found_all es sorted = λ k d lt.
      find_at nat_cmp nat_cmp_total es (get_or es k d).0 k d (record {
        in_range = lt;
        smaller_before = λ j e low. rw (get_or_default es j e d (omega arith))
            (sorted_at nat_cmp nat_cmp_total es j k d sorted low lt);
        has_key = λ e. rw (get_or_default es k e d lt) (grind (arith, nat_tests));
      })

  -- what is found is an entry
  contains_found : (q : ℕ) (es : List (ℕ × V)) (v : V) → find nat_cmp q es ≡ Some v
      → Contains es (q, v)
  contains_found q [] v e = cc
  contains_found q (x ∷ es) v e = cond_both (eq_by_cmp nat_cmp q x.0) (Some x.1) (find nat_cmp q es)
      (λ o. o ≡ Some v → Contains (x ∷ es) (q, v))
      (λ is found. let value : x.1 ≡ v = cc in
      (zero, omega arith, rw (tells_apart exact_unsigned q x.0 is, ← value) refl))
      (λ is found. let there = contains_found q es v found in
      (suc there.0, omega (arith, there.1), there.2)) e

module _ (patch : PatchMap) (by_channel : List (ℕ × (ℕ × ℕ))) (begins : List ℕ)
    (index : IsIndex (map.entries patch) by_channel begins)
    (c : ℕ) (one_up : 1 ≤ c) (few : c ≤ 4096) where
  -- a dimmer that lies there is patched to the channel
  pub entry : (p : ℕ) → get_or begins (c - 1) 0 ≤ p → p < get_or begins c 0
      → map.get patch (dimmer_at by_channel p) ≡ Some (c, byte_at by_channel p)
  entry p low high =
      let within : p < length by_channel = omega (arith, (index.places c (omega arith)).in_range) in
      let below : channel_at by_channel p < c + 1 = (index.places c (omega arith)).below p
      (0, (0, 0)) (omega arith) high in
      let above : c - 1 + 1 ≤ channel_at by_channel p =
      (index.places (c - 1) (omega arith)).from_on p (0, (0, 0)) low within in
      let channel : channel_at by_channel p ≡ c = omega arith in
      let found : find nat_cmp (dimmer_at by_channel p) (map.entries patch)
      ≡ Some (get_or by_channel p (0, (0, 0))).1 =
      All-permutation (λ e. find nat_cmp e.0 (map.entries patch) ≡ Some e.1) (map.entries patch)
      by_channel index.same (found_all (map.entries patch) (map.entries_sorted patch)) p
      (0, (0, 0)) within in
      rw (map.get-entries patch (dimmer_at by_channel p), found) (grind arith)

  -- a dimmer that is patched to the channel lies there
  pub complete : (dimmer byte : ℕ) → map.get patch dimmer ≡ Some (c, byte)
      → (p : ℕ) × (get_or begins (c - 1) 0 ≤ p) × (p < get_or begins c 0)
      × (dimmer_at by_channel p ≡ dimmer)
  complete dimmer byte is =
      let e : ℕ × (ℕ × ℕ) = (dimmer, (c, byte)) in
      let there : Contains by_channel e = Contains-permutation (map.entries patch) by_channel e
      index.same (contains_found dimmer (map.entries patch) (c, byte)
      (sym (map.get-entries patch dimmer) ∙ is)) in
      let own : get_or by_channel there.0 (0, (0, 0)) ≡ e =
      get_or_default by_channel there.0 (0, (0, 0)) e there.1 ∙ there.2 in
      let channel : channel_at by_channel there.0 ≡ c = ap (λ x. x.1.0) own in
      let from = index.places (c - 1) (omega arith) in
      let up = index.places c (omega arith) in (
        there.0,
        grind (arith, channel, from.below there.0 (0, (0, 0)) (omega arith)),
        grind (
          arith,
          channel,
          λ (le : get_or begins c 0 ≤ there.0). up.from_on there.0 (0, (0, 0))
              le there.1,
        ),
        ap (λ x. x.0) own,
      )

-- the places never fall
pub begins_rise : (dimmers by_channel : List (ℕ × (ℕ × ℕ))) (begins : List ℕ)
    → IsIndex dimmers by_channel begins → (c : ℕ) → c < 4096
    → get_or begins c 0 ≤ get_or begins (c + 1) 0
begins_rise dimmers by_channel begins index c few =
    let p : ℕ = get_or begins (c + 1) 0 in
    let here = index.places c (omega arith) in
    grind (
      arith,
      here.in_range,
      λ (lt : p < get_or begins c 0). here.below p (0, (0, 0)) (omega arith) lt,
      λ (lt : p < length by_channel). (index.places (c + 1) (omega arith)).from_on p (0, (0, 0))
          (omega arith) lt,
    )

-- one place more
pub places_more : (P : ℕ → ℕ → Type 0) (begins : List ℕ) (n place : ℕ) → length begins + 1 ≡ n
    → P n place
    → ((c : ℕ) → c + 1 < n → P (c + 1) (get_or begins c 0))
    → (c : ℕ) → c + 1 < n + 1 → P (c + 1) (get_or (begins ++ place ∷ []) c 0)
places_more P begins n place size here so_far c lt = elim (cases_lt c (length begins)) [
  | inl before ↦ rw (get_or_append_left begins (place ∷ []) 0 c before) (so_far c (omega arith))
  | inr after ↦
      let last : c ≡ length begins = omega arith in
      let at : c + 1 ≡ n = omega arith in
      rw (at, last, get_or-append_seam begins place [] 0) here
]
