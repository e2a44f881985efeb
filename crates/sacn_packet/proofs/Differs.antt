-- Bytes at an offset that are compared as numbers, and part by part.
use Rattle.std.proofs.Common.{◌≡◌, ℕ, false, not, nat_eq, List, ◌++◌, ◌≤◌, ◌<◌, ◌+◌, ◌^◌, []}
use Rattle.std.proofs.Common.{length, drop, take, arith, ap, sym, ◌∙◌, append-nil}
use Rattle.std.proofs.Math.Seq.{drop-append_seam}
use Rattle.std.proofs.lemmas.Bool.Decides.{same_from_decides, Decides-like}
use Rattle.std.proofs.lemmas.Bool.{eqb-true, eq-eqb}
use Rattle.std.proofs.lemmas.List.{length-append, length-take-le, length-drop, take_all}
use Rattle.std.proofs.lemmas.Grind.{same_number_lists}
use Rattle.std.proofs.lemmas.Slice.Eq.{bytes_eq-Decides}
use Rattle.byteorder.specs.Endian.{big_bytes, big_number}
use Rattle.byteorder.specs.Numbers.{big_number-reads_back}
use Rattle.sacn_packet.proofs.Parts.{AreBytes, part, join_rows, part_bytes}
use Rattle.sacn_packet.proofs.Readable.{same_at}
use Rattle.sacn_packet.specs.Wire.{bytes_at}
use Rattle.sacn_packet.specs.Faults.{differs_at}

-- four bytes are the number in them
pub four_bytes : (xs : List ℕ) → length xs ≡ 4 → AreBytes xs → xs ≡ big_bytes 4 (big_number 4 xs)
four_bytes xs size bytes =
    same_number_lists xs _ size (λ k lt. grind (arith, bytes 0, bytes 1, bytes 2, bytes 3))

-- bytes are others than those of a number where the number in them is another
pub other_number : (d : List ℕ) (offset n wanted : ℕ) → offset + n ≤ length d → AreBytes d
    → ((xs : List ℕ) → length xs ≡ n → AreBytes xs → xs ≡ big_bytes n (big_number n xs))
    → wanted < 256 ^ n → length (big_bytes n wanted) ≡ n
    → not (nat_eq (big_number n (bytes_at d offset n)) wanted)
    ≡ differs_at d offset (big_bytes n wanted)
other_number d offset n wanted fits bytes are below size =
    let read : List ℕ = bytes_at d offset n in
    let is : read ≡ big_bytes n (big_number n read) =
    are read (length-take-le n (drop offset d) (omega (arith, length-drop offset d, fits)))
    (part_bytes d offset n bytes) in
    let back : big_number n (big_bytes n wanted) ≡ wanted =
    ap (big_number n) (sym (append-nil (big_bytes n wanted)))
    ∙ big_number-reads_back n wanted [] below in
    rw size (ap not (same_from_decides _ _ (
      λ same. is ∙ ap (big_bytes n) (eqb-true _ _ same),
      λ same. eq-eqb _ _ (ap (big_number n) same ∙ back),
    ) (bytes_eq-Decides read (big_bytes n wanted))))

-- other bytes stand at an offset where those of the first part do, or those of the second
module _ (d : List ℕ) (offset : ℕ) (xs ys : List ℕ) where
  second_from_both : bytes_at d offset (length (xs ++ ys)) ≡ xs ++ ys
      → bytes_at d (offset + length xs) (length ys) ≡ ys
  second_from_both h =
      part d offset (length (xs ++ ys)) (length xs) (length ys)
      (omega (arith, length-append xs ys)) h
      ∙ ap (take (length ys)) (drop-append_seam xs ys) ∙ take_all (length ys) ys (omega arith)

  both_from_second : bytes_at d offset (length xs) ≡ xs
      → bytes_at d (offset + length xs) (length ys) ≡ ys
      → bytes_at d offset (length (xs ++ ys)) ≡ xs ++ ys
  both_from_second first second =
      rw length-append (join_rows d offset (length xs) (length ys) first second)

  pub after_first : differs_at d offset xs ≡ false
      → differs_at d (offset + length xs) ys ≡ differs_at d offset (xs ++ ys)
  after_first first =
      ap not (same_from_decides _ _
      (Decides-like _ (both_from_second (same_at d offset xs first)) second_from_both
      (bytes_eq-Decides (bytes_at d (offset + length xs) (length ys)) ys))
      (bytes_eq-Decides (bytes_at d offset (length (xs ++ ys))) (xs ++ ys)))
