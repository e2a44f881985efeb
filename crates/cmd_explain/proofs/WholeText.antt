-- What `explain` prints, put together from its parts.
use Rattle.cmd_explain.proofs.Terms.{◌≡◌, ◌∙◌, ℕ, ◌++◌, List, map, flat_map, reverse, take, ap}
use Rattle.cmd_explain.proofs.Terms.{subst, All, lines_of, Tables, desk_limits, of_its_show}
use Rattle.cmd_explain.proofs.Terms.{lines_read, IsShowOf, statements_of, IsExplanationOf}
use Rattle.cmd_explain.proofs.Terms.{IsOneLine, IsTextOf, encoding_notes, note_line, line_notes}
use Rattle.cmd_explain.proofs.Terms.{numbered_notes, show_notes, skipped_lines, display_text}
use Rattle.cmd_explain.proofs.OneLine.{one_line_each}

-- notes of one line each were put behind a text
pub record AddsNotes (old new : List ℕ) : Type 0 where
  pub notes : List (List ℕ)
  pub in_lines : All IsOneLine notes
  pub is : new ≡ old ++ flat_map note_line notes

pub adds : {X : Type 0} (text_of : X → List ℕ) (notes : List X) {old new : List ℕ}
    → new ≡ old ++ flat_map note_line (map (λ note. display_text (text_of note)) notes)
    → AddsNotes old new
adds text_of notes e = record {
  notes = map (λ note. display_text (text_of note)) notes;
  in_lines = one_line_each text_of notes;
  is = e;
}

module _ (text : List ℕ) (count : ℕ) (show : Tables) {a b n c d e skipped : List ℕ}
    (first : a ≡ encoding_notes text) (lines : b ≡ a ++ skipped)
    (skips : skipped ≡ skipped_lines (reverse (take count (lines_of text))))
    (numbered : n ≡ b ++ numbered_notes (reverse (take count (lines_of text))))
    (second : AddsNotes n c)
    (on_lines : d ≡ c ++ line_notes show (reverse (take count (lines_of text))))
    (on_show : e ≡ d ++ show_notes show) where
  abbrev s : List ℕ
  s = skipped_lines (reverse (take count (lines_of text)))

  pub whole_text : IsTextOf text count show e
  whole_text = record {
    doubts = second.notes;
    doubts_in_lines = second.in_lines;
    text_is =
        on_show ∙ ap (λ t. t ++ show_notes show) (on_lines
        ∙ ap (λ t. t ++ line_notes show (reverse (take count (lines_of text)))) (second.is
        ∙ ap (λ t. t ++ flat_map note_line second.notes) (numbered
        ∙ ap (λ t. t ++ numbered_notes (reverse (take count (lines_of text))))
        (lines ∙ ap (λ t. a ++ t) skips ∙ ap (λ t. t ++ s) first))));
  }

-- a text of the show that was read is the one of the show that the text means
pub its_text : (show text : List ℕ) (lines : ℕ) (s : Tables)
    → IsShowOf (statements_of desk_limits show) s → lines ≡ lines_read desk_limits show
    → IsTextOf show lines s text → IsExplanationOf show text
its_text show text lines s is read told =
    of_its_show show (λ t. IsTextOf show (lines_read desk_limits show) t text) s is
    (subst (λ n. IsTextOf show n s text) read told)
