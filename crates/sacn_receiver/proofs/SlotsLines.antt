-- A slots line that is made slot by slot.
use Rattle.std.proofs.Common.{ℕ, ◌+◌, ◌<◌, ◌≡◌, List, [], ◌∷◌, ◌++◌, length, take, get_or}
use Rattle.std.proofs.Common.{flat_map, sym, ap, ◌∙◌, add_comm, add-one, arith}
use Rattle.std.specs.List.{enumerate_from}
use Rattle.std.proofs.Math.Seq.{take-suc}
use Rattle.std.proofs.lemmas.List.{flat_map_more, take_all}
use Rattle.std.proofs.lemmas.List.FromFn.{get_or-enumerate_from, length-enumerate_from}
use Rattle.sacn_receiver.specs.Replies.{slot_text}

-- one more of the numbered elements
numbered_more : (xs : List ℕ) (i : ℕ) → i < length xs
    → take (i + 1) (enumerate_from 1 xs)
    ≡ take i (enumerate_from 1 xs) ++ (i + 1, get_or xs i 0) ∷ []
numbered_more xs i inside =
    let within : i < length (enumerate_from 1 xs) = rw (length-enumerate_from) inside in
    ap (λ k. take k (enumerate_from 1 xs)) (add-one i)
    ∙ take-suc (enumerate_from 1 xs) i (0, 0) within
    ∙ ap (λ p. take i (enumerate_from 1 xs) ++ p ∷ []) (get_or-enumerate_from 1 xs i (0, 0) inside
    ∙ ap (λ k. (k, get_or xs i 0)) (add_comm 1 i))

-- the texts of one slot more
pub slots_more : (text front xs : List ℕ) (i : ℕ) → i < length xs
    → text ≡ front ++ flat_map slot_text (take i (enumerate_from 1 xs))
    → text ++ slot_text (i + 1, get_or xs i 0)
    ≡ front ++ flat_map slot_text (take (i + 1) (enumerate_from 1 xs))
slots_more text front xs i inside is =
    ap (λ t. t ++ slot_text (i + 1, get_or xs i 0)) is
    ∙ flat_map_more slot_text front (take i (enumerate_from 1 xs)) (i + 1, get_or xs i 0)
    ∙ ap (λ l. front ++ flat_map slot_text l) (sym (numbered_more xs i inside))

-- the texts of all slots
pub slots_all : (xs : List ℕ) (i : ℕ) → i ≡ length xs
    → take i (enumerate_from 1 xs) ≡ enumerate_from 1 xs
slots_all xs i is = take_all i (enumerate_from 1 xs) (rw (length-enumerate_from) omega (arith, is))
