-- What reading a show text answers.
use Rattle.std.specs.Prelude.{◌≡◌, ℕ, ◌+◌, ◌≤◌, ◌==◌, Bool, true, false, not, ◌&&◌, if◌then◌else◌}
use Rattle.std.specs.Prelude.{nat_le, nat_lt, List, [], ◌∷◌, ◌++◌, All, count_by, length, Option}
use Rattle.std.specs.Prelude.{Some, None, IfSome, is_some, option_map}
use Rattle.std.specs.List.{list_any}
use Rattle.std.specs.Option.{option_or}
use Rattle.show_reader.specs.Terms.{Tables, LineFault, Cue, Statement, Opens, Levels, Patches}
use Rattle.show_reader.specs.Terms.{Faulty, Limits}
use Rattle.show_line.specs.declared.fault.LineFault.TheVariants as fault
use Rattle.show_reader.specs.declared.fault.ShowFault.{ShowFault}
use Rattle.show_reader.specs.declared.fault.ShowFault.TheVariants as show_fault
use Rattle.show_reader.specs.Text.{statements_of}
use Rattle.show_reader.specs.Keys.{Key, Level, Dimmer, KeyAnswer, answer_for}
use Rattle.show_reader.specs.Meaning.{is_record_there, cue_count, is_skipped}
use Rattle.show_reader.specs.Shows.{IsShowOf}

-- a line's fault below the statements above it; a line that opens the 2,001st cue has one too
abbrev pub fault_below : List Statement → Statement → Option LineFault
fault_below above (Faulty f) = Some f
fault_below above (Opens (Cue n)) =
    if not (is_record_there (Cue n) above) && nat_le 2000 (cue_count above)
    then Some fault.Limit else None
fault_below above _ = None

-- the fault of a line, with its number
abbrev pub fault_at : ℕ → LineFault → ShowFault
fault_at line fault.Ident = show_fault.Ident line
fault_at line fault.MissingNumber = show_fault.MissingNumber line
fault_at line fault.BadNumber = show_fault.BadNumber line
fault_at line fault.BadLevel = show_fault.BadLevel line
fault_at line fault.BadTime = show_fault.BadTime line
fault_at line fault.HalfPair = show_fault.HalfPair line
fault_at line fault.HalfTriple = show_fault.HalfTriple line
fault_at line fault.Limit = show_fault.Limit line

-- the fault of the first line that has one: it stands above, or the newest line has it
abbrev pub first_fault : List Statement → Option ShowFault
first_fault [] = None
first_fault (newest ∷ above) =
    option_or (first_fault above)
    (option_map (fault_at (length above + 1)) (fault_below above newest))

-- the most bytes that a show text has
abbrev pub longest_text : ℕ
longest_text = 1048576

-- the fault of a show text: it is too long, or its first faulty line decides
abbrev pub text_fault : Limits → List ℕ → Option ShowFault
text_fault lim text =
    if nat_lt longest_text (length text) then Some show_fault.TooLong
    else first_fault (statements_of lim text)

-- how many lines were read, that of ENDDATA included
abbrev pub lines_read : Limits → List ℕ → ℕ
lines_read lim text = length (statements_of lim text)

-- how many of them were skipped
abbrev pub lines_skipped : Limits → List ℕ → ℕ
lines_skipped lim text = count_by is_skipped (statements_of lim text)

-- ---- what needs memory

-- a statement that may grow a show: it opens a record, lists a channel or patches a dimmer
abbrev pub grows : Statement → Bool
grows (Opens r) = true
grows (Levels r []) = false
grows (Levels r (pair ∷ pairs)) = true
grows (Patches triples) = list_any (λ t. not (t.channel == 0)) triples
grows _ = false

-- the statements above the first that has a fault: those that have none, nor has one above them
abbrev pub faultless_front : List Statement → List Statement
faultless_front [] = []
faultless_front (newest ∷ above) =
    (if is_some (first_fault (newest ∷ above)) then [] else newest ∷ []) ++ faultless_front above

-- no line above the first faulty one, or of the whole text, grows the show
abbrev pub NothingGrows : Limits → List ℕ → Type 0
NothingGrows lim text = All (λ s. grows s ≡ false) (faultless_front (statements_of lim text))

-- ---- wider limits

-- an answer within limits: the level of one of their channels, or the patch of one of their dimmers
-- to one of their channels
abbrev pub IsAnswerWithin : Limits → (k : Key) → KeyAnswer k → Type 0
IsAnswerWithin lim (Level r channel) byte = channel ≤ lim.channels
IsAnswerWithin lim (Dimmer dimmer) patch = (dimmer ≤ lim.dimmers) × (patch.0 ≤ lim.channels)
IsAnswerWithin lim _ answer = Unit {0}

-- no channel beyond the limits is listed or patched to, and no dimmer beyond them is patched
abbrev pub FitsIn : Limits → Tables → Type 0
FitsIn lim show = (k : Key) → IfSome (answer_for show k) (IsAnswerWithin lim k)

-- what wider limits leave of a text without a fault under narrower ones: it has none and says the
-- same, and the show that it means has no dimmer and no channel beyond the narrower limits
pub record ReadsAlike (narrow wide : Limits) (text : List ℕ) : Type 0 where
  pub faultless : text_fault wide text ≡ None
  pub statements : statements_of wide text ≡ statements_of narrow text
  pub fits : (show : Tables) → IsShowOf (statements_of wide text) show → FitsIn narrow show

-- a desk with more room reads each text that one with less room accepted, to the same show, which
-- has nothing beyond the smaller room
abbrev pub LimitsLaw : Type 0
LimitsLaw = (narrow wide : Limits) → narrow.channels ≤ wide.channels → narrow.dimmers ≤ wide.dimmers
    → (text : List ℕ) → text_fault narrow text ≡ None → ReadsAlike narrow wide text
