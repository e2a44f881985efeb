-- Which list of cues is printed.
use Rattle.std.specs.Prelude.{ℕ, Bool, true, false, List}
use Rattle.cmd_cues.specs.Prints.{IsCueJson, IsCueTable}

-- the object, where JSON is asked for, or else the table
abbrev pub IsCueList : Bool → List ℕ → List ℕ → Type 0
IsCueList true show text = IsCueJson show text
IsCueList false show text = IsCueTable show text
