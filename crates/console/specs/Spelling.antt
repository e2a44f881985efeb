-- The call that a line spells, by its words.
use Rattle.std.specs.Prelude.{ℕ, Bool, true, false, ◌&&◌, List, [], ◌∷◌, Option, Some, None}
use Rattle.std.specs.Prelude.{option_map, option_and_then, if◌then◌else◌, codes, drop}
use Rattle.ascii_text.specs.Text.{words_of}
use Rattle.ascii_text.specs.Forms.{same_word, moment_of, cue_number_of, level_of, time_of, whole_of}
use Rattle.desk_core.specs.declared.command.Command.{Command}
use Rattle.desk_core.specs.declared.command.Command.TheVariants.{Go, Back, Goto, Sub, Group}
use Rattle.desk_core.specs.declared.command.Command.TheVariants.{Master, End}
use Rattle.desk_core.specs.declared.instruction.Instruction.{Instruction}
use Rattle.desk_core.specs.declared.instruction.Instruction.TheVariants.{Plain, GotoIn}
use Rattle.desk_core.specs.Played.{Act, order_at, tick_at}
use Rattle.console.specs.declared.call.Call.{Call}
use Rattle.console.specs.declared.call.Call.TheVariants.{Order, Tick}
use Rattle.console.specs.declared.reading.Reading.{Reading}
use Rattle.console.specs.declared.reading.Reading.TheVariants.{Blank, Malformed, At}

-- `go`, `back` and `end`
abbrev pub with_none : List ℕ → Option Command
with_none keyword =
    if same_word keyword (codes "go") then Some Go
    else (if same_word keyword (codes "back") then Some Back
    else (if same_word keyword (codes "end") then Some End
    else None))

-- `goto N`, N a cue number, and `master L`, L a level
abbrev pub with_one : List ℕ → List ℕ → Option Command
with_one keyword operand =
    if same_word keyword (codes "goto") then option_map (λ n. Goto n) (cue_number_of operand)
    else (if same_word keyword (codes "master")
    then option_map (λ byte. Master byte) (level_of operand)
    else None)

-- `N L`: a number up to 65535, and a level
abbrev pub master_of : (ℕ → ℕ → Command) → List ℕ → List ℕ → Option Command
master_of command number operand =
    option_and_then (λ n. option_map (λ byte. command n byte) (level_of operand))
    (whole_of 65535 number)

-- `sub N L` and `group N L`
abbrev pub with_two : List ℕ → List ℕ → List ℕ → Option Command
with_two keyword number operand =
    if same_word keyword (codes "sub") then master_of (λ n byte. Sub n byte) number operand
    else (if same_word keyword (codes "group")
    then master_of (λ n byte. Group n byte) number operand
    else None)

-- `goto N in TIME`: a cue number, and a time as behind UP in a show
abbrev pub with_three : List ℕ → List ℕ → List ℕ → List ℕ → Option Instruction
with_three keyword number link operand =
    if same_word keyword (codes "goto") && same_word link (codes "in")
    then option_and_then (λ n. option_map (λ time. GotoIn n time) (time_of operand))
    (cue_number_of number)
    else None

-- a keyword and its operands; extra words spell nothing
abbrev pub instruction_with : List ℕ → List (List ℕ) → Option Instruction
instruction_with keyword [] = option_map (λ command. Plain command) (with_none keyword)
instruction_with keyword (a ∷ []) = option_map (λ command. Plain command) (with_one keyword a)
instruction_with keyword (a ∷ b ∷ []) = option_map (λ command. Plain command) (with_two keyword a b)
instruction_with keyword (a ∷ b ∷ c ∷ []) = with_three keyword a b c
instruction_with keyword (a ∷ b ∷ c ∷ d ∷ rest) = None

-- the instruction that words spell
abbrev pub instruction_of : List (List ℕ) → Option Instruction
instruction_of [] = None
instruction_of (keyword ∷ operands) = instruction_with keyword operands

-- a tick has no operands
abbrev pub tick_of : List (List ℕ) → Option Call
tick_of [] = Some Tick
tick_of (word ∷ rest) = None

-- the call that words spell: `tick`, or an instruction
abbrev pub call_of : List (List ℕ) → Option Call
call_of [] = None
call_of (keyword ∷ operands) =
    if same_word keyword (codes "tick") then tick_of operands
    else option_map (λ instruction. Order instruction) (instruction_with keyword operands)

-- the words that are left when a call was read: `tick` and one word are taken, or a keyword and
-- four
abbrev pub words_behind : List (List ℕ) → List (List ℕ)
words_behind [] = []
words_behind (keyword ∷ operands) =
    if same_word keyword (codes "tick") then drop 1 operands else drop 4 operands

abbrev pub reading_at : Option ℕ → Option Call → Reading
reading_at (Some moment) (Some call) = At moment call
reading_at _ _ = Malformed

-- a moment, and the words of a call
abbrev pub reading_of_words : List (List ℕ) → Reading
reading_of_words [] = Blank
reading_of_words (moment ∷ words) = reading_at (moment_of moment) (call_of words)

-- a line, by its words
abbrev pub reading_of : List ℕ → Reading
reading_of line = reading_of_words (words_of line)

abbrev pub is_malformed : Reading → Bool
is_malformed Malformed = true
is_malformed _ = false

-- a call at its moment
abbrev pub act_of : ℕ → Call → Act
act_of moment (Order instruction) = order_at moment instruction
act_of moment Tick = tick_at moment
