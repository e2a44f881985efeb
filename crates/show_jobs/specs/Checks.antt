-- How a check of a show ends.
use Rattle.std.specs.Prelude.{ℕ, ◌≡◌, Bool, true, false, List, Result, Ok, Err}
use Rattle.show_core.specs.Tables.{Tables}
use Rattle.show_line.specs.Said.{desk_limits}
use Rattle.show_reader.specs.ItsShow.{OfItsShow}
use Rattle.show_reader.specs.Reading.{lines_read}
use Rattle.cmd_explain.specs.Weights.{IsWeightOf}
use Rattle.cmd_explain.specs.declared.weight.Weight.{Weight}
use Rattle.remarks.specs.Weights.{IsStrictEnd}
use Rattle.remarks.specs.declared.failure.JobFault.{JobFault}

-- a check ends as the weight of this show has it
pub record IsWeighedEnd (text : List ℕ) (show : Tables) (ended : Result Unit JobFault)
    : Type 0 where
  pub weight : Weight
  pub weighs : IsWeightOf text (lines_read desk_limits text) show weight
  pub end : IsStrictEnd weight ended

-- HOW A CHECK ENDS whose run ended well: well; but a strict one as the weight of its show has it
abbrev pub IsCheckEnd : Bool → List ℕ → Result Unit JobFault → Type 0
IsCheckEnd false text ended = ended ≡ Ok tt
IsCheckEnd true text ended = OfItsShow text (λ s. IsWeighedEnd text s ended)
