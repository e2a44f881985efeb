-- Texts about skipped lines, evaluated.
use Rattle.std.specs.Prelude.{◌≡◌, refl, codes, [], ◌∷◌, ◌++◌, length, replicate}
use Rattle.std.specs.Fmt.{digits}
use Rattle.cmd_explain.specs.declared.reason.Reason.TheVariants as reason
use Rattle.cmd_explain.specs.NumberedLines.{numbered_notes}
use Rattle.cmd_explain.specs.Skipped.{skipped_lines, display_text, skipped_line}

-- the last line stands first
maker : skipped_lines (codes "CUE 1" ∷ codes "WHAT" ∷ codes "UP 5" ∷ codes "$EFFECT 3" ∷ [])
    ≡ codes "line 1: of a maker's record: $EFFECT 3\n"
    ++ codes "line 2: of a maker's record: UP 5\nline 3: of a maker's record: WHAT\n"
unfolding digits
maker = refl

pages : skipped_lines (codes "CHAN 1@FL" ∷ codes "CUE 2 2" ∷ codes "WHAT" ∷ codes "UP 5" ∷ [])
    ≡ codes "line 1: of no record: UP 5\nline 2: unknown keyword: WHAT\n"
    ++ codes "line 3: of page 2: CUE 2 2\nline 4: of a record that is skipped: CHAN 1@FL\n"
unfolding digits
pages = refl

numbered : numbered_notes (codes "4 50" ∷ codes "3 50" ∷ codes "CHAN 1 50" ∷ codes "CUE 1" ∷ [])
    ≡ codes "note: lines 3 4: skipped, as they begin with a number: join them to the CHAN line 2\n"
unfolding digits
numbered = refl

text : (skipped_line 12 reason.UnknownClear (codes "CLEAR x" ++ 13 ∷ [])
    ≡ codes "line 12: an unknown CLEAR: CLEAR x \n")
    × (display_text (9 ∷ 0 ∷ 31 ∷ 32 ∷ 126 ∷ 127 ∷ 255 ∷ []) ≡ codes " ?? ~??")
    × (length (skipped_line 1 reason.NoRecord (replicate 201 65)) ≡ 223)
unfolding digits
text = (refl, refl, refl)
