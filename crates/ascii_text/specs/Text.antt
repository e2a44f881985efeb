-- The lines of a text and the words of a line.
use Rattle.std.specs.Prelude.{ℕ, ◌+◌, Bool, true, false, ◌||◌, List, [], ◌∷◌, ◌==◌, if◌then◌else◌}
use Rattle.std.specs.Prelude.{filter, codes}
use Rattle.std.specs.List.{slice_split, onto_first, before_first, list_any}

-- LF, which ends a line
abbrev pub is_newline : ℕ → Bool
is_newline b = b == 10

-- what each LF ends is a line without it; bytes after the last LF are one more line
abbrev pub lines_of : List ℕ → List (List ℕ)
lines_of [] = []
lines_of (b ∷ bs) = if is_newline b then [] ∷ lines_of bs else onto_first b (lines_of bs)

-- each line with its number, from n on
abbrev pub numbered_from : ℕ → List (List ℕ) → List (ℕ × List ℕ)
numbered_from n [] = []
numbered_from n (line ∷ lines) = (n, line) ∷ numbered_from (n + 1) lines

-- what stands between words: tab, CR, the byte 1A, and eight marks
abbrev pub is_separator : ℕ → Bool
is_separator b = list_any (λ s. b == s) (9 ∷ 13 ∷ 26 ∷ codes " ,/;<=>@")

-- what begins a comment
abbrev pub is_bang : ℕ → Bool
is_bang b = b == 33

-- what ends a word
abbrev pub is_word_end : ℕ → Bool
is_word_end b = is_separator b || is_bang b

-- a word has a byte
abbrev pub is_word : List ℕ → Bool
is_word [] = false
is_word (b ∷ bs) = true

-- the parts between separators that are not empty
abbrev pub parts_of : List ℕ → List (List ℕ)
parts_of bytes = filter is_word (slice_split is_separator bytes)

-- the words of a line: the parts of what stands before the first `!`
abbrev pub words_of : List ℕ → List (List ℕ)
words_of line = parts_of (before_first is_bang line)
