-- The words of a line have no more bytes than the line, nor the lines of a text than the text.
use Rattle.std.proofs.Common.{◌≡◌, ℕ, ◌+◌, ◌≤◌, Bool, true, false, cond, List, [], ◌∷◌, length}
use Rattle.std.proofs.Common.{refl, arith, length-take}
use Rattle.std.specs.Prelude.{filter}
use Rattle.std.specs.List.{slice_split, onto_first, before_first}
use Rattle.ascii_text.specs.Text.{lines_of, words_of, numbered_from}
use Rattle.ascii_text.specs.Text.{is_newline, is_separator, is_bang, is_word}

-- how many bytes several lists have
abbrev pub sizes : List (List ℕ) → ℕ
sizes [] = 0
sizes (x ∷ xs) = length x + sizes xs

-- how many bytes numbered lines have
abbrev pub line_sizes : List (ℕ × List ℕ) → ℕ
line_sizes [] = 0
line_sizes (line ∷ lines) = length line.1 + line_sizes lines

onto_first-size : (x : ℕ) (xs : List (List ℕ)) → sizes (onto_first x xs) ≤ 1 + sizes xs
onto_first-size x [] = omega arith
onto_first-size x (y ∷ ys) = omega arith

filter-size : (p : List ℕ → Bool) (xs : List (List ℕ)) → sizes (filter p xs) ≤ sizes xs
filter-size p [] = omega arith
filter-size p (x ∷ xs) =
    let ih = filter-size p xs in
    elim (p x) as (λ b. sizes (cond b (x ∷ filter p xs) (filter p xs)) ≤ length x + sizes xs) [
      | true ↦ omega arith
      | false ↦ omega arith
    ]

split-size : (p : ℕ → Bool) (xs : List ℕ) → sizes (slice_split p xs) ≤ length xs
split-size p [] = omega arith
split-size p (x ∷ xs) =
    let ih = split-size p xs in
    let more = onto_first-size x (slice_split p xs) in
    elim (p x) as (λ b. sizes (cond b ([] ∷ slice_split p xs) (onto_first x (slice_split p xs)))
    ≤ length (x ∷ xs)) [
      | true ↦ omega arith
      | false ↦ omega arith
    ]

before-size : (p : ℕ → Bool) (xs : List ℕ) → length (before_first p xs) ≤ length xs
before-size p xs = grind (arith, length-take)

pub words-size : (line : List ℕ) → sizes (words_of line) ≤ length line
words-size line =
    let a = filter-size is_word (slice_split is_separator (before_first is_bang line)) in
    let b = split-size is_separator (before_first is_bang line) in
    let c = before-size is_bang line in
    omega (arith, a, b, c)

lines-size : (text : List ℕ) → sizes (lines_of text) ≤ length text
lines-size [] = omega arith
lines-size (x ∷ xs) =
    let ih = lines-size xs in
    let more = onto_first-size x (lines_of xs) in
    elim (is_newline x) as (λ b. sizes (cond b ([] ∷ lines_of xs) (onto_first x (lines_of xs)))
    ≤ length (x ∷ xs)) [
      | true ↦ omega arith
      | false ↦ omega arith
    ]

numbered-size : (n : ℕ) (lines : List (List ℕ)) → line_sizes (numbered_from n lines) ≡ sizes lines
numbered-size n [] = refl
numbered-size n (line ∷ lines) = let ih = numbered-size (n + 1) lines in omega (arith, ih)

pub text-size : (n : ℕ) (text : List ℕ)
    → line_sizes (numbered_from n (lines_of text)) ≤ length text
text-size n text = omega (arith, numbered-size n (lines_of text), lines-size text)
