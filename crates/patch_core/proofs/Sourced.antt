-- Each dimmer gets its source and its byte, and the slots that these make are its own.
use Rattle.patch_core.proofs.Terms.{◌≡◌, ℕ, ◌+◌, ◌-◌, ◌*◌, ◌<◌, IsTrue, List, length, get_or, set, take}
use Rattle.patch_core.proofs.Terms.{refl, arith, option_map_or, nat_cmp, find, is_sorted, get_or-set_at}
use Rattle.patch_core.proofs.Terms.{get_or-set_other, PatchMap, slot_of, dimmer_slot, listed_level}
use Rattle.patch_core.proofs.Terms.{AreSources}
use Rattle.patch_core.proofs.Frames.{other_key, same_key, find_more}

-- a byte of 0 makes a dark slot
pub slot_dark : (level grand : ℕ) → slot_of level grand 0 ≡ 0
slot_dark level grand =
    let none : level * grand * 0 ≡ 0 = omega arith in
    rw none refl

-- the write of the next dimmer's source and byte
pub sources_more : (es : List (ℕ × (ℕ × ℕ))) → IsTrue (is_sorted nat_cmp es)
    → (sources bytes : List ℕ) (i at source byte : ℕ) → i < length es
    → at + 1 ≡ (get_or es i (0, (0, 0))).0 → source + 1 ≡ (get_or es i (0, (0, 0))).1.0 → byte
    ≡ (get_or es i (0, (0, 0))).1.1 → at < length sources → at < length bytes
    → (p : ℕ) (level : ℕ → ℕ) (grand : ℕ)
    → slot_of (level (get_or sources p 0 + 1)) grand (get_or bytes p 0)
    ≡ option_map_or (λ e. slot_of (level e.0) grand e.1) (find nat_cmp (p + 1) (take i es)) 0
    → slot_of (level (get_or (set sources at source) p 0 + 1)) grand (get_or (set bytes at byte) p
    0) ≡ option_map_or (λ e. slot_of (level e.0) grand e.1) (find nat_cmp (p + 1) (take (i + 1)
    es)) 0
sources_more es sorted sources bytes i at source byte lt dimmer channel byte_is room enough p level
    grand before =
    let e : ℕ × (ℕ × ℕ) = get_or es i (0, (0, 0)) in
    rw (find_more es (p + 1) sorted i e (0, (0, 0)) lt refl) (grind (
      arith,
      get_or-set_at sources at p source 0,
      get_or-set_other sources at p source 0,
      get_or-set_at bytes at p byte 0,
      get_or-set_other bytes at p byte 0,
      same_key (p + 1) e.0,
      other_key (p + 1) e.0,
      before,
    ))

-- a number that is set is below the bound, too
pub set_below : (bound : ℕ) (xs : List ℕ) (at x : ℕ) → at < length xs → x < bound → ((p : ℕ)
    → get_or xs p 0 < bound) → (p : ℕ) → get_or (set xs at x) p 0 < bound
set_below bound xs at x room lt below p =
    grind (arith, get_or-set_at xs at p x 0, get_or-set_other xs at p x 0, below p)

-- a slot that the sources make is that of the dimmer
pub slot_from_sources : (patch : PatchMap) (sources bytes levels : List ℕ)
    → AreSources patch sources bytes → (grand p : ℕ) → p < 8192
    → slot_of (get_or levels (get_or sources p 0) 0) grand (get_or bytes p 0)
    ≡ dimmer_slot patch (listed_level levels) grand (p + 1)
slot_from_sources patch sources bytes levels are grand p lt =
    let back : get_or sources p 0 + 1 - 1 ≡ get_or sources p 0 = omega arith in
    rw (← are.slots p lt (listed_level levels) grand, back) refl
