-- The lines of a text that are read one by one.
use Rattle.std.proofs.Common.{◌≡◌, ℕ, ◌+◌, ◌-◌, ◌^◌, ◌≤◌, inl, inr, List, [], ◌∷◌, ◌++◌, length}
use Rattle.std.proofs.Common.{map, refl, sym, ap, subst, ◌∙◌, Option, Some, None, arith}
use Rattle.std.proofs.Common.{append_assoc, length-drop}
use Rattle.std.specs.Prelude.{⊤}
use Rattle.std.specs.List.{after_first, position_or_len}
use Rattle.ascii_text.specs.Text.{is_newline}
use Rattle.byte_reading.specs.ShortLines.{AreRead, GivesLine, GivesNone, short_line, short_lines}
use Rattle.byte_reading.proofs.ShortText.{first_line}

-- so many lines are read, and the rest of the text is left
pub record IsReadTo (text rest : List ℕ) (lines : List (List ℕ)) (n : ℕ) : Type 0 where
  pub whole : short_lines text ≡ lines ++ short_lines rest
  pub count : n + length rest ≤ length text

abbrev pub ReadTo : Option (List ℕ) → Option (List ℕ) → List (List ℕ) → ℕ → Type 0
ReadTo None now lines n = ⊤
ReadTo (Some text) None lines n = ⊥
ReadTo (Some text) (Some rest) lines n = IsReadTo text rest lines n

pub none_read : (left : Option (List ℕ)) → ReadTo left left [] 0
none_read None = tt
none_read (Some text) = record { whole = refl; count = omega arith }

pub line_read : (old now new : Option (List ℕ)) (lines : List (List ℕ)) (line : List ℕ) (n : ℕ)
    → ReadTo old now lines n → GivesLine now new line → ReadTo old new (lines ++ line ∷ []) (n + 1)
line_read None now new lines line n h g = tt
line_read (Some text) None new lines line n h g = absurd h
line_read (Some text) (Some []) new lines line n h g = absurd (omega (arith, g.0))
line_read (Some text) (Some (x ∷ xs)) new lines line n h g =
    let rest = after_first is_newline (x ∷ xs) in
    let next : short_lines (x ∷ xs) ≡ line ∷ short_lines rest =
    ap (map short_line) (first_line x xs) ∙ ap (λ l. l ∷ short_lines rest) (sym g.1) in
    let fewer = length-drop (position_or_len is_newline (x ∷ xs) + 1) (x ∷ xs) in
    subst (λ left. ReadTo (Some text) left (lines ++ line ∷ []) (n + 1)) (sym g.2) (record {
      whole = h.whole ∙ ap (λ l. lines ++ l) next
          ∙ sym (append_assoc lines (line ∷ []) (short_lines rest));
      count = omega (arith, h.count, fewer);
    })

pub all_read : (old now new : Option (List ℕ)) (lines : List (List ℕ)) (n : ℕ)
    (fails failed : Type 0) → ReadTo old now lines n → GivesNone now new failed
    → (failed → fails) → AreRead old fails lines
all_read None now new lines n fails failed h g may = tt
all_read (Some text) None new lines n fails failed h g may = absurd h
all_read (Some text) (Some rest) new lines n fails failed h g may = λ few. (
  short_lines rest,
  h.whole,
  elim (g (omega (arith, few, h.count))) [
    | inl end ↦ inl (ap short_lines end.0)
    | inr fault ↦ inr (may fault)
  ],
)

-- a text of more lines than any
pub too_many : (old now : Option (List ℕ)) (lines : List (List ℕ)) (n : ℕ) (fails : Type 0)
    → ReadTo old now lines n → n ≡ 2 ^ 64 - 1 → AreRead old fails lines
too_many None now lines n fails h e = tt
too_many (Some text) None lines n fails h e = absurd h
too_many (Some text) (Some rest) lines n fails h e = λ few. absurd (omega (arith, few, h.count, e))
