-- A line that is read byte by byte.
use Rattle.std.proofs.Common.{◌≡◌, ℕ, zero, suc, ◌+◌, ◌-◌, ◌^◌, ◌<◌, ◌≤◌, inl, inr, min, true}
use Rattle.std.proofs.Common.{false, cond, not, List, [], ◌∷◌, ◌++◌, length, map, take, drop, refl}
use Rattle.std.proofs.Common.{sym, ap, ap₂, ◌∙◌, Option, Some, None, arith, append_assoc}
use Rattle.std.proofs.Common.{length-append, length-take}
use Rattle.std.specs.Prelude.{⊤}
use Rattle.std.specs.List.{after_first, before_first, onto_first, position_or_len}
use Rattle.std.proofs.lemmas.Bool.Decides.{nat_tests}
use Rattle.std.proofs.lemmas.Grind.{common_steps}
use Rattle.ascii_text.specs.Text.{is_newline, lines_of}
use Rattle.byte_reading.specs.ShortLines.{AllLinesLaw, GivesByte, GivesLine, GivesNone}
use Rattle.byte_reading.specs.ShortLines.{short_line, short_lines, shown_byte}

one_more : (n : ℕ) → 1 + n ≡ suc n
one_more n = omega arith

-- the first line of a text stands before its first LF, and the others are those of the rest
pub first_line : (x : ℕ) (xs : List ℕ) → lines_of (x ∷ xs)
    ≡ before_first is_newline (x ∷ xs) ∷ lines_of (after_first is_newline (x ∷ xs))
first_line x [] = elim (is_newline x) as (λ b. cond b ([] ∷ []) ((x ∷ []) ∷ [])
    ≡ take (cond (not b) 1 0) (x ∷ []) ∷ lines_of (drop (cond (not b) 1 0 + 1) (x ∷ [])))
    [ true ↦ refl | false ↦ refl ]
first_line x (y ∷ ys) =
    let end = position_or_len is_newline (y ∷ ys) in
    elim (is_newline x) as (λ b. cond b ([] ∷ lines_of (y ∷ ys)) (onto_first x (lines_of (y ∷ ys)))
    ≡ take (cond (not b) (1 + end) 0) (x ∷ y ∷ ys) ∷ lines_of
    (drop (cond (not b) (1 + end) 0 + 1) (x ∷ y ∷ ys))) [
      | true ↦ refl
      | false ↦ let e : 1 + end + 1 ≡ suc (end + 1) = omega arith in
          rw (e, one_more end) (ap (onto_first x) (first_line y ys))
    ]

-- a byte before the first LF
before-more : (byte : ℕ) (rest : List ℕ) → is_newline byte ≡ false
    → before_first is_newline (byte ∷ rest) ≡ byte ∷ before_first is_newline rest
before-more byte rest e = rw (e, one_more (position_or_len is_newline rest)) refl

behind-more : (byte : ℕ) (rest : List ℕ) → is_newline byte ≡ false
    → after_first is_newline (byte ∷ rest) ≡ after_first is_newline rest
behind-more byte rest e =
    let at : 1 + position_or_len is_newline rest + 1 ≡ suc (position_or_len is_newline rest + 1)
    = omega arith in
    rw (e, at) refl

-- what is shown is ASCII
pub shown_ascii : (byte : ℕ) → shown_byte byte < 128
shown_ascii byte = grind (arith, nat_tests)

-- what does not fit is cut, now or later
cut-more : (n : ℕ) (front back : List ℕ) → take n (take n front ++ back) ≡ take n (front ++ back)
cut-more zero front back = refl
cut-more (suc n) [] back = refl
cut-more (suc n) (x ∷ front) back = ap (λ l. x ∷ l) (cut-more n front back)

cut-all : (n : ℕ) (line : List ℕ) → length line ≤ n → take n (line ++ []) ≡ line
cut-all n line h = grind (arith, common_steps)

-- the bytes of a line so far, of which there are n, and what is left of the text
pub record IsBegun (text rest line : List ℕ) (n : ℕ) : Type 0 where
  pub front : short_line (before_first is_newline text)
      ≡ take 160 (line ++ map shown_byte (before_first is_newline rest))
  pub behind : after_first is_newline text ≡ after_first is_newline rest
  pub count : length text ≡ n + length rest
  pub long : length line ≡ min n 160

abbrev pub Begun : Option (List ℕ) → Option (List ℕ) → List ℕ → ℕ → Type 0
Begun None now line n = ⊤
Begun (Some text) None line n = ⊥
Begun (Some text) (Some rest) line n = IsBegun text rest line n

pub begins : (left : Option (List ℕ)) → Begun left left [] 0
begins None = tt
begins (Some text) = record {
  front = refl;
  behind = refl;
  count = omega arith;
  long = refl;
}

pub goes_on : (old now new : Option (List ℕ)) (line more : List ℕ) (n byte : ℕ)
    → Begun old now line n → GivesByte now new (Some byte) → is_newline byte ≡ false
    → more ≡ take 160 (line ++ shown_byte byte ∷ []) → Begun old new more (n + 1)
goes_on None now new line more n byte b g e is = tt
goes_on (Some text) None new line more n byte b g e is = absurd b
goes_on (Some text) (Some rest) None line more n byte b g e is = absurd g
goes_on (Some text) (Some rest) (Some last) line more n byte b g e is =
    let before = ap (before_first is_newline) g ∙ before-more byte last e in
    let behind = ap (after_first is_newline) g ∙ behind-more byte last e in
    let all = map shown_byte (before_first is_newline last) in
    record {
      front = b.front ∙ ap (λ l. take 160 (line ++ map shown_byte l)) before
          ∙ sym (ap (take 160) (append_assoc line (shown_byte byte ∷ []) all))
          ∙ sym (cut-more 160 (line ++ shown_byte byte ∷ []) all)
          ∙ ap (λ l. take 160 (l ++ all)) (sym is);
      behind = b.behind ∙ behind;
      count = let one = ap length g in omega (arith, b.count, one);
      long = ap length is ∙ length-take 160 (line ++ shown_byte byte ∷ [])
          ∙ omega (arith, b.long, length-append line (shown_byte byte ∷ []));
    }

-- at an LF
pub ends_line : (old now new : Option (List ℕ)) (line : List ℕ) (n byte : ℕ)
    → Begun old now line n → GivesByte now new (Some byte) → byte ≡ 10 → GivesLine old new line
ends_line None now new line n byte b g e = tt
ends_line (Some text) None new line n byte b g e = absurd b
ends_line (Some text) (Some rest) None line n byte b g e = absurd g
ends_line (Some text) (Some rest) (Some last) line n byte b g e =
    let is : rest ≡ 10 ∷ last = g ∙ ap (λ x. x ∷ last) e in
    let before : before_first is_newline rest ≡ [] = ap (before_first is_newline) is in
    let behind : after_first is_newline rest ≡ last = ap (after_first is_newline) is in
    let one = ap length is in
    let within : length line ≤ 160 = omega (arith, b.long) in (
      omega (arith, b.count, one),
      sym (b.front ∙ ap (λ l. take 160 (line ++ map shown_byte l)) before
          ∙ cut-all 160 line within),
      ap Some (sym (b.behind ∙ behind)),
    )

-- at the end of a text
pub ends_text : (old now new : Option (List ℕ)) (line : List ℕ) (n : ℕ)
    → Begun old now line n → GivesByte now new None → 0 < length line → GivesLine old new line
ends_text None now new line n b g h = tt
ends_text (Some text) None new line n b g h = absurd b
ends_text (Some text) (Some rest) None line n b g h = absurd g.0
ends_text (Some text) (Some rest) (Some last) line n b g h =
    let before : before_first is_newline rest ≡ [] = ap (before_first is_newline) g.1 in
    let behind : after_first is_newline rest ≡ [] = ap (after_first is_newline) g.1 in
    let within : length line ≤ 160 = omega (arith, b.long) in (
      omega (arith, b.count, b.long),
      sym (b.front ∙ ap (λ l. take 160 (line ++ map shown_byte l)) before
          ∙ cut-all 160 line within),
      ap Some (g.0 ∙ g.1 ∙ sym (b.behind ∙ behind)),
    )

nothing : (xs : List ℕ) → length xs ≡ 0 → xs ≡ []
nothing [] h = refl
nothing (x ∷ xs) h = absurd (omega arith)

pub no_line : (old now new : Option (List ℕ)) (line : List ℕ) (n : ℕ) (fails : Type 0)
    → Begun old now line n → GivesByte now new None → length line ≡ 0 → GivesNone old new fails
no_line None now new line n fails b g h = tt
no_line (Some text) None new line n fails b g h = absurd b
no_line (Some text) (Some rest) None line n fails b g h = absurd g.0
no_line (Some text) (Some rest) (Some last) line n fails b g h = λ few.
    let none = ap length g.1 in
    let all : length text ≡ 0 = omega (arith, b.count, b.long, none) in
    inl (nothing text all, ap Some (g.0 ∙ g.1))

-- a text that is longer than any
pub too_long : (old now : Option (List ℕ)) (line : List ℕ) (n : ℕ) (fails : Type 0)
    → Begun old now line n → n ≡ 2 ^ 64 - 1 → GivesNone old now fails
too_long None now line n fails b h = tt
too_long (Some text) None line n fails b h = absurd b
too_long (Some text) (Some rest) line n fails b h = λ few. absurd (omega (arith, b.count))

pub breaks : (old new : Option (List ℕ)) (fails : Type 0) → fails → GivesNone old new fails
breaks None new fails f = tt
breaks (Some text) new fails f = λ few. inr f

-- the lines that are given are those of the text
pub all_lines : AllLinesLaw
all_lines text [] h = rw h refl
all_lines [] (line ∷ lines) h = absurd (omega (arith, h.1.0))
all_lines (x ∷ xs) (line ∷ lines) h =
    let given = h.1 in
    let rest : h.0 ≡ after_first is_newline (x ∷ xs) = some_is given.2 in
    rw (first_line x xs) (ap₂ (λ (l : List ℕ) (ls : List (List ℕ)). l ∷ ls) given.1
    (all_lines h.0 lines h.2 ∙ ap short_lines rest))
  where
    some_is : {a b : List ℕ} → Some a ≡ Some b → a ≡ b
    some_is h = cc
