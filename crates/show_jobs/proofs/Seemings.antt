-- What a file seems to be, by what was read of it.
use Rattle.std.proofs.Common.{◌≡◌, ℕ, List, Some, None}
use Rattle.std.specs.FinMap as maps
use Rattle.show_core.specs.Tables.{Tables}
use Rattle.show_line.specs.Said.{desk_limits}
use Rattle.show_reader.specs.Reading.{text_fault}
use Rattle.show_reader.specs.Shows.{IsShowOf}
use Rattle.show_reader.specs.Text.{statements_of}
use Rattle.show_reader.proofs.OneShow.{of_its_show}
use Rattle.cmd_explain.specs.Encoding.{likely_kind}
use Rattle.show_jobs.specs.Seemings.{SeemsToBe}

-- it is no text, and its show has no cue
pub seems_so : (file what : List ℕ) (s : Tables) → likely_kind file ≡ Some what
    → text_fault desk_limits file ≡ None → IsShowOf (statements_of desk_limits file) s
    → maps.len s.cues ≡ 0 → SeemsToBe file what
seems_so file what s kind faultless is no_cue = record {
  kind = kind;
  faultless = faultless;
  no_cue = of_its_show file (λ t. maps.len t.cues ≡ 0) s is no_cue;
}
