-- How a live night opens by its words and its record.
use Rattle.std.specs.Prelude.{◌≡◌, ◌⊎◌, ◌<◌, ◌+◌, ℕ, Bool, true, false, List, [], ◌∷◌, codes}
use Rattle.std.specs.Prelude.{length, Option, Some, None, option_map, Result, Ok, Err}
use Rattle.fade_core.specs.Level.{Start}
use Rattle.console.specs.Streams.{Production}
use Rattle.show_reader.specs.Reading.{longest_text}
use Rattle.show_reader.specs.declared.fault.ShowFault.TheVariants as show_fault
use Rattle.live_input.specs.Night.{Happening, answers, is_over}
use Rattle.live_input.specs.Recall.{AreRecalled, recall_of}
use Rattle.live_input.specs.Stands as live
use Rattle.ascii_text.specs.Lines.{cut_of}
use Rattle.cmd_faults.specs.declared.fault.RunFault.{RunFault}
use Rattle.cmd_faults.specs.declared.fault.RunFault.TheVariants as run
use Rattle.cmd_play.specs.Opened.{Refuses}
use Rattle.cmd_words.specs.declared.job.Night.{Night as NightWords}
use Rattle.cmd_live.specs.declared.night.Night.{Night}
use Rattle.cmd_live.specs.Beginning.{BeginsWith, CanFollow, IsFirstOther, OpensNight}
use Rattle.cmd_live.specs.Beginning.{TakesUp, has_cue}
use Rattle.cmd_live.specs.Stands.{IsPlayable, OfEach, StandsFor}
use Rattle.night_record.specs.NightOpening.{IsNightOpening, goes_on, lines_of_night, no_lines}
use Rattle.night_record.specs.declared.head.RecordHead.{RecordHead}
use Rattle.night_record.specs.declared.night_opening.NightOpening.{NightOpening}
use Rattle.night_record.specs.declared.unfit.Unfit.{Unfit}
use Rattle.remarks.specs.Refusals.{IsUnfit, Rejects, has_night, line_rule, night_over, unlike_line}
use Rattle.remarks.specs.Remarks.{remark_of}
use Rattle.remarks.specs.TextLines.{of_line}
use Rattle.remarks.specs.declared.failure.JobFault.{JobFault}
use Rattle.remarks.specs.declared.failure.JobFault.TheVariants as job
use Rattle.remarks.specs.declared.refusal.Refusal.{Refusal}
use Rattle.night_opening.specs.Faults.{IsOfRun}
use Rattle.night_opening.specs.Heads.{IsHeadFor}
use Rattle.night_opening.specs.declared.playbill.LiveWords.{LiveWords}
use Rattle.night_opening.specs.declared.playbill.Playbill.{Playbill}

-- a night that can follow can be played, too
pub playable : {F : Type 0} (stands_for : F → List Start → Type 0) (night : Night F)
    → CanFollow stands_for night → IsPlayable stands_for night
playable stands_for night can =
    let taken = can.1.1 in
    ((can.1.0, recall_of taken.lines, taken.stands), can.0.none_lost)

-- how the night of a show, and of what the clock says, begins or goes on by the text of its record
abbrev pub IsOpeningFor : NightWords → List ℕ → Option (List ℕ) → List ℕ
    → Result NightOpening JobFault → Type 0
IsOpeningFor night show clock text (Ok opening) = (head : RecordHead)
    × IsHeadFor night show clock (Ok head) × IsNightOpening head text (Ok opening)
IsOpeningFor night show clock text (Err (job.Run failure)) =
    IsHeadFor night show clock (Err failure)
IsOpeningFor night show clock text (Err (job.Record refusal)) = (head : RecordHead)
    × IsHeadFor night show clock (Ok head)
    × ((unfit : Unfit) × IsNightOpening head text (Err unfit) × IsUnfit unfit head refusal)
IsOpeningFor night show clock text (Err _) = ⊥

-- or without one
abbrev pub IsOpeningBy : NightWords → List ℕ → Option (List ℕ) → Option (List ℕ)
    → Result NightOpening JobFault → Type 0
IsOpeningBy night show clock None result =
    result ≡ Ok (record { head = None; lines = no_lines })
IsOpeningBy night show clock (Some text) result = IsOpeningFor night show clock text result

-- no record has no bytes
abbrev pub text_in_record : Option (List ℕ) → List ℕ
text_in_record None = []
text_in_record (Some text) = text

-- why no night is opened for a show
pub record HasNoNight (bill : Playbill) (fault : JobFault) : Type 0 where
  pub reason : RunFault
  pub refuses : Refuses reason bill.show.now bill.night.now.base
  pub too_long : longest_text < length bill.show.now → reason ≡ run.Show show_fault.TooLong
  pub told : IsOfRun reason bill.show.now fault

-- a night with nothing behind it
abbrev pub IsNewNight : {F : Type 0} → (F → List Start → Type 0) → Playbill
    → Result (Night F) JobFault → Type 0
IsNewNight stands_for bill (Ok night) =
    OpensNight stands_for night bill.show.now bill.night.now.base bill.source
IsNewNight stands_for bill (Err fault) = HasNoNight bill fault

-- it begins at the start of its show, or in a cue that is named; the show has that cue, or it does
-- not begin
abbrev pub BeginsIn : {F : Type 0} → (F → List Start → Type 0) → Night F → Night F → Option ℕ
    → Result Unit RunFault → Type 0
BeginsIn stands_for old new None result = (result ≡ Ok tt) × (new ≡ old)
BeginsIn stands_for old new (Some cue) (Ok done) = BeginsWith stands_for old new cue
    × OfEach stands_for old (λ p happened. has_cue {X = Unit {0}} (Ok done) p.show cue)
BeginsIn stands_for old new (Some cue) (Err fault) = (fault ≡ run.NoCue) × (new ≡ old)
    × OfEach stands_for old (λ p happened. has_cue {X = Unit {0}} (Err fault) p.show cue)

-- whether it has come to its end
abbrev pub HasEnded : {F : Type 0} → Night F → Bool → Type 0
HasEnded night ended = (happened : List Happening) → live.StandsFor night.input happened
    → ended ≡ is_over (answers happened)

-- a night that has come to its end does not go on
abbrev pub IsStillOn : {F : Type 0} → Night F → Result Unit Refusal → Type 0
IsStillOn night (Ok done) = HasEnded night false
IsStillOn night (Err refusal) = HasEnded night true
    × Rejects night_over (remark_of (codes "give another FILE for the next night" ∷ [])) refusal

-- the line of this number does not follow from those that were taken up. In the text it stands
-- behind the two of the head
pub record HasOtherLine {F : Type 0} (stands_for : F → List Start → Type 0) (old : Night F)
    (lines text : List ℕ) (refusal : Refusal) : Type 0 where
  pub number : ℕ
  pub first : (p : Production) (older : List (List ℕ))
      → StandsFor stands_for p old (recall_of older) → AreRecalled older
      → IsFirstOther older lines number
  pub told : Rejects (unlike_line (number + 2)) (of_line (number + 2) text line_rule) refusal

-- it has taken up these lines, over no link
abbrev pub TakesUpAlone : {F : Type 0} → (F → List Start → Type 0) → Night F → Night F → List ℕ
    → Type 0
TakesUpAlone stands_for old new lines = TakesUp stands_for ⊥ old new (cut_of lines).lines [] []

-- it goes on behind these lines of a text, where each follows and the night has not ended
abbrev pub TakesUpRecord : {F : Type 0} → (F → List Start → Type 0) → Night F → Night F → List ℕ
    → List ℕ → Result Unit Refusal → Type 0
TakesUpRecord stands_for old new lines text (Ok done) =
    TakesUpAlone stands_for old new lines × IsStillOn new (Ok done)
TakesUpRecord stands_for old new lines text (Err refusal) =
    (TakesUpAlone stands_for old new lines × IsStillOn new (Err refusal))
    ⊎ HasOtherLine stands_for old lines text refusal

-- the file whose night would not go on where a cue to start in is named
abbrev pub file_beside : Option ℕ → Option (List ℕ) → Option (List ℕ)
file_beside (Some cue) file = file
file_beside None file = None

abbrev pub unused_file : LiveWords → Option (List ℕ)
unused_file words = file_beside words.start (option_map (λ file. file.now) words.record_file)

-- it goes on in the record that the words name, unless they name a cue to start in, too
abbrev pub GoesOnBeside : {F : Type 0} → (F → List Start → Type 0) → Night F → Night F
    → Option (List ℕ) → List ℕ → List ℕ → Result Unit Refusal → Type 0
GoesOnBeside stands_for old new None lines text result =
    TakesUpRecord stands_for old new lines text result
GoesOnBeside stands_for old new (Some file) lines text (Ok done) = ⊥
GoesOnBeside stands_for old new (Some file) lines text (Err refusal) =
    (new ≡ old) × Rejects (has_night file) [] refusal

abbrev pub HasGoneOn : {F : Type 0} → (F → List Start → Type 0) → Night F → Night F → LiveWords
    → List ℕ → List ℕ → Result Unit Refusal → Type 0
HasGoneOn stands_for old new words lines text result =
    GoesOnBeside stands_for old new (unused_file words) lines text result

-- it goes on where there are lines of a night, or else it begins
abbrev pub StartsWhere : {F : Type 0} → (F → List Start → Type 0) → Night F → Night F → Playbill
    → Bool → List ℕ → List ℕ → Result Unit JobFault → Type 0
StartsWhere stands_for old new bill true lines text (Ok done) =
    HasGoneOn stands_for old new bill.words lines text (Ok done)
StartsWhere stands_for old new bill true lines text (Err (job.Record refusal)) =
    HasGoneOn stands_for old new bill.words lines text (Err refusal)
StartsWhere stands_for old new bill true lines text (Err _) = ⊥
StartsWhere stands_for old new bill false lines text (Ok done) =
    BeginsIn stands_for old new bill.words.start (Ok done)
StartsWhere stands_for old new bill false lines text (Err fault) =
    BeginsIn stands_for old new bill.words.start (Err run.NoCue)
    × IsOfRun run.NoCue bill.show.now fault

abbrev pub StartsBy : {F : Type 0} → (F → List Start → Type 0) → Night F → Night F → Playbill
    → NightOpening → List ℕ → Result Unit JobFault → Type 0
StartsBy stands_for old new bill opening text result = StartsWhere stands_for old new bill
    (goes_on opening.lines) (lines_of_night opening.lines text) text result

-- a new night started, or why there is none
abbrev pub OpensBy : {F : Type 0} → (F → List Start → Type 0) → Playbill → NightOpening → List ℕ
    → Result (Night F) JobFault → Type 0
OpensBy {F = F} stands_for bill opening text (Ok night) = (new : Night F)
    × IsNewNight stands_for bill (Ok new) × StartsBy stands_for new night bill opening text (Ok tt)
OpensBy {F = F} stands_for bill opening text (Err fault) = HasNoNight bill fault
    ⊎ ((new : Night F) × (last : Night F) × IsNewNight stands_for bill (Ok new)
    × StartsBy stands_for new last bill opening text (Err fault))
