-- The slots of all dimmers in a row, and the frames of the universes among them.
use Rattle.patch_core.proofs.Terms.{◌≡◌, ℕ, zero, suc, ◌+◌, ◌*◌, ◌<◌, List, length, get_or, take, drop}
use Rattle.patch_core.proofs.Terms.{Some, ◌-◌, replicate, refl, ap, ◌∙◌, arith, slice_get, first_chunks}
use Rattle.patch_core.proofs.Terms.{drop-drop, drop-replicate, get_or-drop, get_or-take, length-drop}
use Rattle.patch_core.proofs.Terms.{length-take, take-replicate, frames_in}

-- the chunk at a place begins behind all before it
chunk_at : (n k place : ℕ) (xs : List ℕ) → place < k
    → slice_get (first_chunks n k xs) place ≡ Some (take n (drop (n * place) xs))
chunk_at n zero place xs lt = absurd (omega (arith, lt))
chunk_at n (suc k) zero xs lt =
    let none : n * 0 ≡ 0 = omega arith in
    rw none refl
chunk_at n (suc k) (suc place) xs lt =
    let more : n + n * place ≡ n * suc place = omega arith in
    chunk_at n k place (drop n xs) (omega (arith, lt))
    ∙ ap (λ ys. Some (take n ys))
    (drop-drop (n * place) n xs ∙ ap (λ at. drop at xs) more)

module _ (slots : List ℕ) (ordinal : ℕ) where
  abbrev pub own : List ℕ
  own = take 512 (drop (512 * ordinal) slots)

  pub frame_in : ordinal < 16 → slice_get (frames_in slots) ordinal ≡ Some own
  unfolding frames_in
  frame_in few = chunk_at 512 16 ordinal slots few

  pub own_size : ordinal < 16 → length slots ≡ 8192 → length own ≡ 512
  own_size few size = omega (arith, few, size, length-drop {A = ℕ}, length-take {A = ℕ})

  pub own_slot : (i : ℕ) → i < 512 → get_or own i 0 ≡ get_or slots (512 * ordinal + i) 0
  own_slot i short =
      get_or-take 512 (drop (512 * ordinal) slots) i 0 short
      ∙ get_or-drop (512 * ordinal) slots i 0

pub chunks_are : (slots : List ℕ) (n : ℕ) → n ≡ 16 → first_chunks 512 n slots ≡ frames_in slots
unfolding frames_in
chunks_are slots n is = ap (λ k. first_chunks 512 k slots) is

-- where each slot is 0, each frame is dark
pub dark_in_a_row : (n ordinal : ℕ) → n ≡ 8192 → ordinal < 16
    → slice_get (frames_in (replicate n 0)) ordinal ≡ Some (replicate 512 0)
dark_in_a_row n ordinal is few =
    frame_in (replicate n 0) ordinal few
    ∙ ap Some (ap (take 512) (drop-replicate (512 * ordinal) n 0)
    ∙ take-replicate 512 (n - 512 * ordinal) 0 (omega arith))
