-- The faults of words in their roles.
use Rattle.std.specs.Prelude.{ℕ, Bool, ◌&&◌, nat_le, nat_lt, if◌then◌else◌, List, [], ◌∷◌, Option}
use Rattle.std.specs.Prelude.{Some, None}
use Rattle.std.specs.Prelude.{is_some}
use Rattle.ascii_text.specs.Forms.{number_of, level_of, time_of, cue_number_of}
use Rattle.show_line.specs.declared.fault.LineFault.{LineFault}
use Rattle.show_line.specs.declared.fault.LineFault.TheVariants.{Ident, MissingNumber, BadNumber}
use Rattle.show_line.specs.declared.fault.LineFault.TheVariants.{BadLevel}
use Rattle.show_line.specs.declared.fault.LineFault.TheVariants.{BadTime, HalfPair, HalfTriple}
use Rattle.show_line.specs.declared.fault.LineFault.TheVariants.{Limit}

-- the number of a fault: of several the lowest is answered
abbrev pub rank_of : LineFault → ℕ
rank_of Ident = 2
rank_of MissingNumber = 3
rank_of BadNumber = 4
rank_of BadLevel = 5
rank_of BadTime = 6
rank_of HalfPair = 7
rank_of HalfTriple = 8
rank_of Limit = 9

-- the lower of two faults
abbrev pub lower : Option LineFault → Option LineFault → Option LineFault
lower None b = b
lower (Some a) None = Some a
lower (Some a) (Some b) = if nat_lt (rank_of b) (rank_of a) then Some b else Some a

-- the fault, unless the test holds
abbrev pub unless : Bool → LineFault → Option LineFault
unless holds fault = if holds then None else Some fault

-- no number is BadNumber, and one outside its range Limit: the form comes before the range
abbrev pub range_fault : ℕ → ℕ → Option ℕ → Option LineFault
range_fault least most None = Some BadNumber
range_fault least most (Some n) = unless (nat_le least n && nat_le n most) Limit

-- a word that must be a number from `least` to `most`
abbrev pub number_fault : ℕ → ℕ → List ℕ → Option LineFault
number_fault least most word = range_fault least most (number_of word)

-- a word that must be a cue number, whose form has its range
abbrev pub cue_fault : List ℕ → Option LineFault
cue_fault word = unless (is_some (cue_number_of word)) BadNumber

-- a word that must be a level
abbrev pub level_fault : List ℕ → Option LineFault
level_fault word = unless (is_some (level_of word)) BadLevel

-- a word that must be a time
abbrev pub time_fault : List ℕ → Option LineFault
time_fault word = unless (is_some (time_of word)) BadTime

-- the word that may stand first: a page, which is a number of any size
abbrev pub page_fault : List (List ℕ) → Option LineFault
page_fault [] = None
page_fault (page ∷ words) = unless (is_some (number_of page)) BadNumber

-- the word that may stand first: a delay
abbrev pub delay_fault : List (List ℕ) → Option LineFault
delay_fault [] = None
delay_fault (delay ∷ words) = time_fault delay
