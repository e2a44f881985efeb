-- A record whose lines are given again. Lines, happenings and answers have the newest first.
use Rattle.std.specs.Prelude.{◌≡◌, ◌≤◌, ℕ, ◌+◌, List, [], ◌∷◌, ◌++◌, codes, decimal, drop, length}
use Rattle.desk_core.specs.declared.command.Command.TheVariants.{End}
use Rattle.desk_core.specs.declared.instruction.Instruction.TheVariants.{Plain}
use Rattle.console.specs.declared.call.Call.{Call}
use Rattle.console.specs.declared.call.Call.TheVariants.{Order, Tick}
use Rattle.console.specs.declared.reading.Reading.{Reading}
use Rattle.console.specs.declared.reading.Reading.TheVariants.{At}
use Rattle.console.specs.Spelling.{reading_of}
use Rattle.live_input.specs.Night.{Happening, answers, asked, came, lines_given, unanswered_lines}

-- the words of a call are typed: what stands in its line behind the moment. An `end` is typed as
-- `leave`, since `master 0` and the dark ticks before it have lines of their own
abbrev pub typed_again : ℕ → Call → List ℕ → List Happening → List Happening
typed_again moment Tick line happened = happened
typed_again moment (Order (Plain End)) line happened = came (codes "leave\n") ∷ happened
typed_again moment (Order instruction) line happened =
    came (drop (length (decimal moment) + 1) line) ∷ happened

-- what has to happen so that a line is given again: its words are typed, and it is asked at its
-- moment
abbrev pub recalled_by : Reading → List ℕ → List Happening → List Happening
recalled_by (At moment call) line happened =
    asked moment ∷ typed_again moment call (line ++ 10 ∷ []) happened
recalled_by _ line happened = happened

abbrev pub recall_line : List ℕ → List Happening → List Happening
recall_line line happened = recalled_by (reading_of line) line happened

-- so each line of a record
abbrev pub recall_of : List (List ℕ) → List Happening
recall_of [] = []
recall_of (line ∷ older) = recall_line line (recall_of older)

-- then this very line is given, and no typed line is left
pub record IsRecalled (line : List ℕ) (happened : List Happening) : Type 0 where
  pub short : length line ≤ 200
  pub given : lines_given (answers (recall_line line happened))
      ≡ line ∷ lines_given (answers happened)
  pub none_left : unanswered_lines (answers (recall_line line happened)) (recall_line line happened)
      ≡ []

-- the lines are a record of a live night: each is given again behind those before it
abbrev pub AreRecalled : List (List ℕ) → Type 0
AreRecalled [] = Unit {0}
AreRecalled (line ∷ older) = IsRecalled line (recall_of older) × AreRecalled older
