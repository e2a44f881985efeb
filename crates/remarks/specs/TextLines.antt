-- What is told of a line of a text that breaks a rule.
use Rattle.std.specs.Prelude.{ℕ, ◌-◌, ◌==◌, List, [], ◌∷◌, Option, Some, None, codes, take}
use Rattle.std.specs.Prelude.{if◌then◌else◌, slice_get}
use Rattle.show_reader.specs.declared.fault.ShowFault.{ShowFault}
use Rattle.show_reader.specs.declared.fault.ShowFault.TheVariants as fault
use Rattle.rehearsal_faults.specs.declared.fault.Fault.{Fault}
use Rattle.rehearsal_faults.specs.declared.fault.Fault.TheVariants as setup
use Rattle.ascii_text.specs.Text.{lines_of}
use Rattle.remarks.specs.Remarks.{remark_of}

-- the line of this number, from 1, of the first 16,777,217 bytes of a text
abbrev pub line_in : ℕ → List ℕ → Option (List ℕ)
line_in number text =
    if number == 0 then None else slice_get (lines_of (take 16777217 text)) (number - 1)

-- the line, where there is one, and the rule
abbrev pub with_rule : Option (List ℕ) → List ℕ → List ℕ
with_rule None rule = remark_of (rule ∷ [])
with_rule (Some line) rule = remark_of (codes "`" ∷ line ∷ codes "`: " ∷ rule ∷ [])

-- the line of this number of a text, and the rule that it breaks
abbrev pub of_line : ℕ → List ℕ → List ℕ → List ℕ
of_line number text rule = with_rule (line_in number text) rule

-- the line that a fault of a show names
abbrev pub line_number : ShowFault → Option ℕ
line_number fault.TooLong = None
line_number (fault.Ident line) = Some line
line_number (fault.MissingNumber line) = Some line
line_number (fault.BadNumber line) = Some line
line_number (fault.BadLevel line) = Some line
line_number (fault.BadTime line) = Some line
line_number (fault.HalfPair line) = Some line
line_number (fault.HalfTriple line) = Some line
line_number (fault.Limit line) = Some line
line_number fault.Memory = None

-- what a show would have in place of the fault
abbrev pub rule_of : ShowFault → List ℕ
rule_of fault.TooLong = codes "a show has at most 1048576 bytes"
rule_of (fault.Ident _) = codes "IDENT names version 3:0"
rule_of (fault.MissingNumber _) =
    codes "CUE, GROUP, SUB and PATCH need a number; a line that times a cue needs a time"
rule_of (fault.BadNumber _) =
    codes "a number is 1 to 9 digits; a cue's is 0.001 to 9999.999, as 2.5"
rule_of (fault.BadLevel _) =
    codes "a level is a percent from 0 to 100, FL or FF, or H and one or two hex digits"
rule_of (fault.BadTime _) =
    codes "a time is seconds to 5999.99, as 2.5, or minutes and seconds to 99:59.99"
rule_of (fault.HalfPair _) = codes "CHAN takes pairs of a channel and a level"
rule_of (fault.HalfTriple _) =
    codes "PATCH takes a page, and triples of a channel, a dimmer and a level"
rule_of (fault.Limit _) =
    codes "a show has 2000 cues, channels to 4096, dimmers to 8192, 500 groups, 100 submasters"
rule_of fault.Memory = codes "the system refused memory"

-- a fault of a show at a line, or at none
abbrev pub at_line : Option ℕ → List ℕ → List ℕ → List ℕ
at_line None text rule = remark_of (rule ∷ [])
at_line (Some number) text rule = of_line number text rule

-- what is told of a fault of a show that this text is
abbrev pub show_remark : ShowFault → List ℕ → List ℕ
show_remark fault text = at_line (line_number fault) text (rule_of fault)

-- what a rehearsal would have in place of the fault
abbrev pub setup_rule : Fault → List ℕ
setup_rule setup.Consoles = codes "a script has one to four consoles"
setup_rule setup.Receivers =
    codes "a script has at most eight receivers, each of its own universe, 1 to 63999"
setup_rule setup.NoShow = codes "a console plays the show that is given"
setup_rule setup.Universe = codes "a base and the show's universes after it are 1 to 63999"
setup_rule setup.Memory = codes "the system refused memory"

-- what is told of a rehearsal that does not begin
abbrev pub setup_remark : Fault → List ℕ
setup_remark fault = remark_of (setup_rule fault ∷ [])
