-- Slots are those of their dimmers again, once those of some channels are written.
use Rattle.patch_core.proofs.Terms.{◌≡◌, ◌≢◌, ℕ, ◌+◌, ◌-◌, ◌/◌, ◌%◌, ◌<◌, ◌≤◌, inl, inr, nat_eq, IsTrue}
use Rattle.patch_core.proofs.Terms.{List, [], length, get_or, set, Option, Some, None, refl, sym, ◌∙◌}
use Rattle.patch_core.proofs.Terms.{arith, ◌*◌, ap, if◌then◌else◌, All, cases_eq, nat_tests}
use Rattle.patch_core.proofs.Terms.{get_or-set_at, get_or-set_other, is_channel, is_dimmer, slot_of}
use Rattle.patch_core.proofs.Terms.{PatchMap, dimmer_slot, frame_of, frames_in, AreDrawn, value_in}
use Rattle.patch_core.proofs.Terms.{IsIndex, slot_at, dimmer_at, byte_at, get_or-map-range_with_len}
use Rattle.patch_core.proofs.Terms.{get_or_from_slice_get}
use Rattle.std.specs.FinMap as map
use Rattle.patch_core.proofs.Indexed.{entry, complete}
use Rattle.patch_core.proofs.Frames.{frame_is}
use Rattle.patch_core.proofs.InARow.{own, frame_in, own_size, own_slot}

pub dimmer_range : (dimmer : ℕ) → IsTrue (is_dimmer dimmer) → (1 ≤ dimmer) × (dimmer ≤ 8192)
dimmer_range dimmer is = (grind (arith, nat_tests), grind (arith, nat_tests))

pub channel_range : (channel : ℕ) → IsTrue (is_channel channel) → (1 ≤ channel) × (channel ≤ 4096)
channel_range channel is = (grind (arith, nat_tests), grind (arith, nat_tests))

-- one slot is written
pub written : (slots : List ℕ) (v at dimmer : ℕ) (want : ℕ → ℕ) → length slots ≡ 8192 → 1 ≤ at
    → at ≤ 8192 → 1 ≤ dimmer → v ≡ want at → (dimmer ≢ at → slot_at slots dimmer ≡ want dimmer)
    → slot_at (set slots (at - 1) v) dimmer ≡ want dimmer
written slots v at dimmer want size at_one within one_up value others = grind (
  arith,
  get_or-set_at slots (at - 1) (dimmer - 1) v 0,
  get_or-set_other slots (at - 1) (dimmer - 1) v 0,
)

-- a dimmer of the run is the one at i, or lies behind it
pub behind : (dimmers : List (ℕ × (ℕ × ℕ))) (i p to dimmer : ℕ) → dimmer ≢ dimmer_at dimmers i
    → ((q : ℕ) → i + 1 ≤ q → q < to → dimmer_at dimmers q ≢ dimmer) → i ≤ p → p < to
    → dimmer_at dimmers p ≢ dimmer
behind dimmers i p to dimmer other rest low high = grind (arith, rest p, other)

-- what a slot is to be: anew where its dimmer is the channel's, else as it was
abbrev pub wanted : ℕ → Option (ℕ × ℕ) → ℕ → ℕ → ℕ
wanted c None old right = old
wanted c (Some p) old right = if nat_eq p.0 c then right else old

-- the slots of a channel that is not among those listed are the same
pub same_slot : (patch : PatchMap) (before after : ℕ → ℕ) (grand : ℕ) (channels : List ℕ)
    (dimmer : ℕ)
    → All (λ e. IsTrue (is_channel e.1.0)) (map.entries patch)
    → ((channel : ℕ) → IsTrue (is_channel channel)
    → ((m : ℕ) → m < length channels → get_or channels m 0 ≢ channel)
    → before channel ≡ after channel)
    → ((channel byte m : ℕ) → map.get patch dimmer ≡ Some (channel, byte) → 0 ≤ m
    → m < length channels → get_or channels m 0 ≢ channel)
    → dimmer_slot patch before grand dimmer ≡ dimmer_slot patch after grand dimmer
same_slot patch before after grand channels dimmer in_range agree unlisted =
    let same : (p : ℕ × ℕ) → map.get patch dimmer ≡ Some p → IsTrue (is_channel p.0)
    → before p.0 ≡ after p.0 =
    λ p is ok. agree p.0 ok (λ m lt. unlisted p.0 p.1 m is (omega arith) lt) in
    grind (arith, value_in (λ p. IsTrue (is_channel p.0)) patch dimmer in_range, same)

module _ (patch : PatchMap) {by_channel : List (ℕ × (ℕ × ℕ))} {begins : List ℕ}
    (index : IsIndex (map.entries patch) by_channel begins)
    (level : ℕ → ℕ) (grand : ℕ) (c : ℕ) (one_up : 1 ≤ c) (few : c ≤ 4096) (old : ℕ → ℕ) where
  abbrev pub right : ℕ → ℕ
  right dimmer = dimmer_slot patch level grand dimmer

  abbrev pub want : ℕ → ℕ
  want dimmer = wanted c (map.get patch dimmer) (old dimmer) (right dimmer)

  pub kept : (dimmer : ℕ)
      → ((p : ℕ) → get_or begins (c - 1) 0 ≤ p → p < get_or begins c 0
      → dimmer_at by_channel p ≢ dimmer) → old dimmer ≡ want dimmer
  kept dimmer unlisted =
      let apart : (p : ℕ × ℕ) → map.get patch dimmer ≡ Some p → p.0 ≢ c = λ p is same.
      let there = complete patch by_channel begins index c one_up few dimmer p.1
      (rw (is, ← same) refl) in unlisted there.0 there.1 there.2 there.3 in
      grind (arith, nat_tests, apart)

  pub drawn : (l p : ℕ) → l ≡ level c → get_or begins (c - 1) 0 ≤ p → p < get_or begins c 0
      → slot_of l grand (byte_at by_channel p) ≡ want (dimmer_at by_channel p)
  drawn l p is low high = rw (is, entry patch by_channel begins index c one_up few p low high)
      (grind (arith, nat_tests))

  pub next : (channels : List ℕ) (j dimmer : ℕ) → get_or channels j 0 ≡ c
      → (((channel byte m : ℕ) → map.get patch dimmer ≡ Some (channel, byte) → j ≤ m
      → m < length channels → get_or channels m 0 ≢ channel) → old dimmer ≡ right dimmer)
      → ((channel byte m : ℕ) → map.get patch dimmer ≡ Some (channel, byte) → j + 1 ≤ m
      → m < length channels → get_or channels m 0 ≢ channel)
      → want dimmer ≡ right dimmer
  next channels j dimmer here so_far rest = go (map.get patch dimmer) refl where
    go : (o : Option (ℕ × ℕ)) → map.get patch dimmer ≡ o
        → wanted c o (old dimmer) (right dimmer) ≡ right dimmer
    go None is = so_far (λ channel byte m found. cc)
    go (Some p) is = elim (cases_eq p.0 c) [
      | inl same ↦ grind (arith, nat_tests)
      | inr apart ↦
          let old : old dimmer ≡ right dimmer = so_far (λ channel byte m found low high.
          grind (arith, rest channel byte m found)) in
          grind (arith, nat_tests)
    ]

-- ---- frames, and the slots of the dimmers in them

module _ (patch : PatchMap) (level : ℕ → ℕ) (grand : ℕ) (slots : List ℕ)
    (size : length slots ≡ 8192) where
  abbrev slot : ℕ → ℕ
  slot = dimmer_slot patch level grand

  pub slots_from_drawn : AreDrawn patch level grand (frames_in slots) → (dimmer : ℕ)
      → IsTrue (is_dimmer dimmer) → slot_at slots dimmer ≡ slot dimmer
  slots_from_drawn drawn dimmer is =
      let range = dimmer_range dimmer is in
      let k : ℕ = (dimmer - 1) / 512 in
      let i : ℕ = (dimmer - 1) % 512 in
      let few : k < 16 = omega (arith, range.1) in
      let short : i < 512 = omega arith in
      let place : 512 * k + i ≡ dimmer - 1 = omega arith in
      let next : 512 * k + 1 + i ≡ dimmer = omega (arith, range.0, place) in
      let frame : own slots k ≡ frame_of patch level grand k =
      sym (get_or_from_slice_get (frames_in slots) k (own slots k) [] (frame_in slots k few))
      ∙ get_or_from_slice_get (frames_in slots) k (frame_of patch level grand k) [] (drawn k few) in
      ap (λ p. get_or slots p 0) (sym place) ∙ sym (own_slot slots k i short)
      ∙ ap (λ f. get_or f i 0) frame
      ∙ get_or-map-range_with_len slot (512 * k + 1) 512 i dimmer 0 short next

  pub drawn_from_slots : ((dimmer : ℕ) → IsTrue (is_dimmer dimmer)
      → slot_at slots dimmer ≡ slot dimmer) → AreDrawn patch level grand (frames_in slots)
  drawn_from_slots each k few =
      frame_in slots k few
      ∙ ap Some (frame_is slot (512 * k + 1) 512 (own slots k) (own_size slots k few size) (λ i lt.
      let d : ℕ = 512 * k + 1 + i in
      let place : 512 * k + i ≡ d - 1 = omega arith in
      let is : IsTrue (is_dimmer d) = grind (arith, nat_tests) in
      own_slot slots k i lt ∙ ap (λ p. get_or slots p 0) place ∙ each d is))
