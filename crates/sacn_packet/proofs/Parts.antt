-- Parts of a list of bytes, and numbers in them.
use Rattle.std.proofs.Common.{◌≡◌, ℕ, ◌+◌, ◌<◌, ◌≤◌, List, [], ◌∷◌, ◌++◌, length, take, drop}
use Rattle.std.proofs.Common.{get_or, slice_index, sym, ◌∙◌, ap, arith, rules}
use Rattle.std.proofs.lemmas.List.{same_lists, places, take_min, length-take, length-take-le}
use Rattle.std.proofs.lemmas.List.{length-drop, get_or-drop, drop_more}
use Rattle.std.proofs.lemmas.Bool.{cases_lt}
use Rattle.std.proofs.lemmas.Grind.{same_number_lists}
use Rattle.byteorder.specs.Endian.{big_bytes, big_number}
use Rattle.sacn_packet.specs.Wire.{bytes_at}
use Rattle.sacn_packet.specs.Reading.{number_at}

-- each byte is below 256
abbrev pub AreBytes : List ℕ → Type 0
AreBytes xs = (i : ℕ) → get_or xs i 0 < 256

-- a part of a part that is known
pub part : (xs : List ℕ) (offset count from size : ℕ) {ys : List ℕ} → from + size ≤ count
    → bytes_at xs offset count ≡ ys → bytes_at xs (offset + from) size ≡ bytes_at ys from size
part xs offset count from size within e =
    rw (← e) (same_lists _ _ (search (rules, places)) (λ k d h. grind (arith, places)))

-- two parts that are known, one after the other
pub join_rows : (xs : List ℕ) (offset m n : ℕ) {ys zs : List ℕ} → bytes_at xs offset m ≡ ys
    → bytes_at xs (offset + m) n ≡ zs → bytes_at xs offset (m + n) ≡ ys ++ zs
join_rows xs offset m n h k =
    rw (← h, ← k) (same_lists _ _ (search (rules, places)) (λ k d h. grind (arith, places)))

-- a prefix ends where its length says
pub trimmed : (xs : List ℕ) (n size : ℕ) → length (take n xs) ≡ size → take n xs ≡ take size xs
trimmed xs n size e = sym (take_min n xs) ∙ ap (λ (k : ℕ). take k xs) (sym (length-take n xs) ∙ e)

-- a prefix of bytes is bytes
pub take_bytes : (xs : List ℕ) (n : ℕ) → AreBytes xs → AreBytes (take n xs)
take_bytes xs n h i =
    grind (arith, places, h i, cases_lt i n)

-- a part of bytes is bytes
pub part_bytes : (xs : List ℕ) (offset count : ℕ) → AreBytes xs
    → AreBytes (bytes_at xs offset count)
part_bytes xs offset count h =
    take_bytes (drop offset xs) count (λ i. rw (get_or-drop offset xs i 0) (h (offset + i)))

-- a part of a prefix is a part
pub prefix : (xs : List ℕ) (n offset count : ℕ) → offset + count ≤ n
    → bytes_at (take n xs) offset count ≡ bytes_at xs offset count
prefix xs n offset count within =
    same_lists _ _ (search (rules, places)) (λ k d h. grind (arith, places))

-- one byte
pub one_byte : (xs : List ℕ) (i : ℕ) → i < length xs → bytes_at xs i 1 ≡ slice_index xs i ∷ []
one_byte xs i within = rw (drop_more xs i 0 within)

-- two bytes are the number in them
pub two_bytes : (xs : List ℕ) → length xs ≡ 2 → AreBytes xs → xs ≡ big_bytes 2 (big_number 2 xs)
two_bytes xs e h = same_number_lists xs _ e (λ k lt. grind (arith, h 0, h 1))

pub two_at : (xs : List ℕ) (offset : ℕ) → offset + 2 ≤ length xs → AreBytes xs
    → bytes_at xs offset 2 ≡ big_bytes 2 (number_at xs offset)
two_at xs offset within h =
    two_bytes (bytes_at xs offset 2)
    (length-take-le 2 (drop offset xs) (omega (arith, length-drop offset xs)))
    (part_bytes xs offset 2 h)

-- the fields of one and of two bytes
pub byte_is : (xs : List ℕ) (i x : ℕ) → i < length xs → bytes_at xs i 1 ≡ x ∷ []
    → slice_index xs i ≡ x
byte_is xs i x within e = cc (one_byte xs i within, e)

pub number_is : (xs : List ℕ) (offset n : ℕ) → n < 65536 → bytes_at xs offset 2 ≡ big_bytes 2 n
    → number_at xs offset ≡ n
number_is xs offset n small e = ap (big_number 2) e ∙ omega arith
