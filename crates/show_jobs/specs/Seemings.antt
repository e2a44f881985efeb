-- What is told of a file that seems to be no show.
use Rattle.std.specs.Prelude.{ℕ, ◌≡◌, List, [], Option, Some, None}
use Rattle.std.specs.FinMap as maps
use Rattle.show_line.specs.Said.{desk_limits}
use Rattle.show_reader.specs.ItsShow.{OfItsShow}
use Rattle.show_reader.specs.Reading.{NothingGrows, text_fault}
use Rattle.cmd_explain.specs.Encoding.{likely_kind}
use Rattle.remarks.specs.Remarks.{of_seeming}

-- the file seems to be this, which is no text; what is read of it is a show without cues
pub record SeemsToBe (file what : List ℕ) : Type 0 where
  pub kind : likely_kind file ≡ Some what
  pub faultless : text_fault desk_limits file ≡ None
  pub no_cue : OfItsShow file (λ s. maps.len s.cues ≡ 0)

-- what a file seems to be; none where it seems to be nothing of the kind, or where what grows in
-- its show found no memory
abbrev pub IsSeeming : List ℕ → Option (List ℕ) → Type 0
IsSeeming file (Some what) = SeemsToBe file what
IsSeeming file None = NothingGrows desk_limits file → (what : List ℕ) → SeemsToBe file what → ⊥

-- WHAT IS REMARKED OF A FILE: what it seems to be, where that is no show
abbrev pub seeming_remark : Option (List ℕ) → List ℕ
seeming_remark None = []
seeming_remark (Some what) = of_seeming what

abbrev pub IsSeemingRemark : List ℕ → List ℕ → Type 0
IsSeemingRemark file remark =
    (what : Option (List ℕ)) × IsSeeming file what × (remark ≡ seeming_remark what)
