-- The fields of a line, from its front.
use Rattle.std.proofs.Common.{◌≡◌, ℕ, suc, ◌+◌, true, false, List, [], ◌∷◌, take, drop}
use Rattle.std.proofs.Common.{refl, ap, arith}
use Rattle.std.specs.Prelude.{filter}
use Rattle.std.specs.List.{slice_split, onto_first, prefix_len, position_or_len}
use Rattle.network_tables.specs.Fields.{is_blank, is_field, fields_of, field}

one_more : (n : ℕ) → 1 + n ≡ suc n
one_more n = omega arith

-- the first part goes up to the first blank, and the others are those of what stands from there on
record Split (xs : List ℕ) : Type 0 where
  tail : List (List ℕ)
  parts : slice_split is_blank xs ≡ take (position_or_len is_blank xs) xs ∷ tail
  behind : fields_of (drop (position_or_len is_blank xs) xs) ≡ filter is_field tail

split : (xs : List ℕ) → Split xs
split [] = record { tail = []; parts = refl; behind = refl }
split (x ∷ xs) = elim (is_blank x) as (λ b. is_blank x ≡ b → Split (x ∷ xs)) [
  | true ↦ λ e. record {
    tail = slice_split is_blank xs;
    parts = rw e refl;
    behind = rw (e, e) refl;
  }
  | false ↦ λ e. let ih = split xs in record {
    tail = ih.tail;
    parts = rw (e, one_more (position_or_len is_blank xs)) (ap (onto_first x) ih.parts);
    behind = rw (e, one_more (position_or_len is_blank xs)) ih.behind;
  }
] refl

-- what stands behind the blanks in front
abbrev pub behind_blanks : List ℕ → List ℕ
behind_blanks xs = drop (prefix_len is_blank xs) xs

-- the field in front, and the fields of what stands behind it
pub record Front (xs : List ℕ) : Type 0 where
  pub front : take (position_or_len is_blank (behind_blanks xs)) (behind_blanks xs) ≡ field 0 xs
  pub behind : fields_of (drop (position_or_len is_blank (behind_blanks xs)) (behind_blanks xs))
      ≡ drop 1 (fields_of xs)

pub front_is : (xs : List ℕ) → Front xs
front_is [] = record { front = refl; behind = refl }
front_is (x ∷ xs) = elim (is_blank x) as (λ b. is_blank x ≡ b → Front (x ∷ xs)) [
  | true ↦ λ e. let ih = front_is xs in record {
    front = rw (e, one_more (prefix_len is_blank xs)) ih.front;
    behind = rw (e, one_more (prefix_len is_blank xs)) ih.behind;
  }
  | false ↦ λ e. let s = split xs in record {
    front = rw (e, one_more (position_or_len is_blank xs), s.parts, e) refl;
    behind = rw (e, one_more (position_or_len is_blank xs), s.parts, e) s.behind;
  }
] refl
