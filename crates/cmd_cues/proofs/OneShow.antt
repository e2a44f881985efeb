-- A text means one show alone, so what is made of the show that was read is made of each.
use Rattle.cmd_cues.proofs.Terms.{◌≡◌, ◌∙◌, ap, ℕ, List, reverse, take, lines_of, Tables}
use Rattle.cmd_cues.proofs.Terms.{desk_limits, lines_read, IsShowOf, statements_of, of_its_show}
use Rattle.cmd_cues.proofs.Terms.{json_text, label_after, label_in, IsCueJson, IsCueTable}
use Rattle.cmd_cues.proofs.Terms.{table_text}

module _ (show written : List ℕ) (lines : ℕ) (s : Tables)
    (is : IsShowOf (statements_of desk_limits show) s) (read : lines ≡ lines_read desk_limits show)
  where
    pub table_of : written ≡ table_text (label_after (reverse (take lines (lines_of show)))) s
        → IsCueTable show written
    table_of wrote =
        of_its_show show (λ t. written ≡ table_text (label_in show) t) s is
        (wrote ∙ ap (λ n. table_text (label_after (reverse (take n (lines_of show)))) s) read)

    pub json_of : written ≡ json_text (label_after (reverse (take lines (lines_of show)))) s
        → IsCueJson show written
    json_of wrote =
        of_its_show show (λ t. written ≡ json_text (label_in show) t) s is
        (wrote ∙ ap (λ n. json_text (label_after (reverse (take n (lines_of show)))) s) read)
