-- A vector as the list of its lanes: the greater of two, and a vector in a list of slots.
use Rattle.patch_core.proofs.Terms.{◌≡◌, ℕ, ◌+◌, ◌-◌, ◌<◌, ◌≤◌, max, List, Bool, true, false, cond, ltb}
use Rattle.patch_core.proofs.Terms.{length, get_or, refl, ap, ◌∙◌, arith, zip2, sel_l, chunk, put_chunk}
use Rattle.patch_core.proofs.Terms.{ltb-true, ltb-false, length-zip2, get_or-zip2, length-sel_l}
use Rattle.patch_core.proofs.Terms.{get_or-sel_l, get_or-chunk, get_or-put_chunk_at}

chosen : (x y : ℕ) (less : Bool) → ltb x y ≡ less → cond less y x ≡ max x y
chosen x y true is = omega (arith, ltb-true x y is)
chosen x y false is = omega (arith, ltb-false x y is)

-- where a lane of the first is less, the lane of the second
abbrev pub most : List ℕ → List ℕ → List ℕ
most a b = sel_l (zip2 ltb a b) b a

pub length-most : (a b : List ℕ) → length a ≡ 32 → length b ≡ 32 → length (most a b) ≡ 32
length-most a b p q =
    let long = length-zip2 ltb a b (omega arith) in
    omega (arith, length-sel_l (zip2 ltb a b) b a (omega arith) (omega arith))

pub get_or-most : (a b : List ℕ) → length a ≡ 32 → length b ≡ 32 → (lane : ℕ) → lane < 32
    → get_or (most a b) lane 0 ≡ max (get_or a lane 0) (get_or b lane 0)
get_or-most a b p q lane lt =
    let long = length-zip2 ltb a b (omega arith) in
    get_or-sel_l (zip2 ltb a b) b a lane 0 (omega arith) (omega arith) (omega arith)
    ∙ ap (λ less. cond less (get_or b lane 0) (get_or a lane 0))
    (get_or-zip2 ltb a b lane 0 0 false (omega arith) (omega arith))
    ∙ chosen (get_or a lane 0) (get_or b lane 0) _ refl

-- a slot of a list into which a vector was stored
pub stored : (a v : List ℕ) (from s : ℕ) → length v ≡ 32 → from + 32 ≤ length a → from ≤ s
    → s < from + 32
    → get_or (put_chunk from a v) s 0 ≡ get_or v (s - from) 0
stored a v from s long fits low high =
    ap (λ place. get_or (put_chunk from a v) place 0) (omega arith)
    ∙ get_or-put_chunk_at from a v (s - from) 0 (omega arith) (omega arith)

-- a lane of a vector that was loaded, by its slot
pub loaded : (a : List ℕ) (from s : ℕ) → from ≤ s → s < from + 32
    → get_or (chunk from 32 a) (s - from) 0 ≡ get_or a s 0
loaded a from s low high =
    get_or-chunk from 32 a (s - from) 0 (omega arith) ∙ ap (λ place. get_or a place 0) (omega arith)
