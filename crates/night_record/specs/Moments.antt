-- The moments of lines, as of a record and of what is shown.
use Rattle.std.specs.Prelude.{ℕ, List, [], ◌∷◌, Option, None, if◌then◌else◌, codes}
use Rattle.ascii_text.specs.Forms.{moment_of, same_word}

-- the moment of a line of these words, in milliseconds: the first of them
abbrev pub line_moment : List (List ℕ) → Option ℕ
line_moment [] = None
line_moment (first ∷ words) = moment_of first

-- the moment of a line that shows where a night is: behind it stands `where`
abbrev pub where_moment : List (List ℕ) → Option ℕ
where_moment (first ∷ second ∷ words) =
    if same_word second (codes "where") then moment_of first else None
where_moment words = None
