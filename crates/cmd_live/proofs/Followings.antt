-- What a night is told over a whole following, and by a whole record.
use Rattle.std.proofs.Common.{◌≡◌, ℕ, Bool, true, false, List, [], ◌∷◌, ◌++◌, Option, Some, None}
use Rattle.std.proofs.Common.{refl, ap, ◌∙◌, sym}
use Rattle.std.specs.Prelude.{if◌then◌else◌}
use Rattle.std.specs.Duration.{as_nanos}
use Rattle.arrayvec.specs.declared.array_vec.ArrayVec.{ArrayVec}
use Rattle.ascii_text.specs.Text.{words_of}
use Rattle.live_machine.specs.declared.input.Came.TheVariants as came
use Rattle.night_record.specs.Asked.{asked_by}
use Rattle.night_record.specs.Silence.{is_record_silent}
use Rattle.night_record.specs.declared.asked.Asked.{Asked}
use Rattle.night_record.specs.declared.asked.Asked.TheVariants as asked
use Rattle.cmd_live.specs.declared.main_console.Led.{Led}
use Rattle.cmd_live.specs.declared.main_console.Led.TheVariants.{End}
use Rattle.cmd_live.specs.Backup.{AreDone, FollowsAll, comments_in, deeds_done, deeds_due}
use Rattle.cmd_live.specs.Backup.{following_began, is_comment, kept_lines, led_by_asked}
use Rattle.cmd_live.specs.Backup.{lines_to_follow, missing_lines, deeds_for_asked}
use Rattle.cmd_live.specs.Backup.{told_by_main}
use Rattle.cmd_live.specs.Backup.{told_more}
use Rattle.cmd_live.specs.Spare.{IsTakenUp, has_had_lock, given_by_record, told_by_record}
use Rattle.cmd_live.specs.Told.{lines_told}
use Rattle.cmd_live.specs.declared.main_watch.MainDeed.{MainDeed}
use Rattle.cmd_live.specs.declared.main_watch.MainDeed.TheVariants.{Kept, Missing, Refused}
use Rattle.cmd_live.specs.declared.main_watch.MainDeed.TheVariants.{Helped, Reminded}
use Rattle.cmd_live.specs.declared.main_watch.MainEvent.{MainEvent}
use Rattle.cmd_live.specs.declared.main_watch.MainEvent.TheVariants as event
use Rattle.cmd_live.specs.declared.played_record.RecordEvent.{RecordEvent}
use Rattle.cmd_live.specs.declared.played_record.RecordEvent.TheVariants as record_event

-- what a typed line asks for is no line
asks_no_line : (asks : Option Asked) (older : List Led)
    → lines_told (told_more (led_by_asked asks) older) ≡ lines_told older
asks_no_line None older = refl
asks_no_line (Some asked.Take) older = refl
asks_no_line (Some asked.Where) older = refl
asks_no_line (Some asked.Help) older = refl
asks_no_line (Some asked.Other) older = refl

-- an end is no line
end_is_no_line : (b : Bool) (older : List Led)
    → lines_told (told_more (if b then Some End else None) older) ≡ lines_told older
end_is_no_line true older = refl
end_is_no_line false older = refl

no_end_is_no_line : (b : Bool) (older : List Led)
    → lines_told (told_more (if b then None else Some End) older) ≡ lines_told older
no_end_is_no_line true older = refl
no_end_is_no_line false older = refl

-- the lines that a night is told are those that were kept
told_are_kept : (patience : ℕ) (events : List MainEvent)
    → lines_told (told_by_main patience events) ≡ kept_lines (deeds_done events)
told_are_kept patience [] = refl
told_are_kept patience (event.Did (Kept line) ∷ older) =
    ap (λ all. line.items ∷ all) (told_are_kept patience older)
told_are_kept patience (event.Did (Missing line) ∷ older) = told_are_kept patience older
told_are_kept patience (event.Did (Refused line) ∷ older) = told_are_kept patience older
told_are_kept patience (event.Did Helped ∷ older) = told_are_kept patience older
told_are_kept patience (event.Did Reminded ∷ older) = told_are_kept patience older
told_are_kept patience (event.Typed line ∷ older) =
    asks_no_line (asked_by (words_of line.items)) (told_by_main patience older)
    ∙ told_are_kept patience older
told_are_kept patience (event.Looked false ∷ older) =
    no_end_is_no_line (following_began older) (told_by_main patience older)
    ∙ told_are_kept patience older
told_are_kept patience (event.Looked true ∷ older) = told_are_kept patience older
told_are_kept patience (event.Passed passed ∷ older) =
    end_is_no_line (is_record_silent (as_nanos passed) patience) (told_by_main patience older)
    ∙ told_are_kept patience older
told_are_kept patience (event.Began ∷ older) = told_are_kept patience older
told_are_kept patience (event.NothingTyped ∷ older) = told_are_kept patience older
told_are_kept patience (event.Came line ∷ older) = told_are_kept patience older
told_are_kept patience (event.Unreadable ∷ older) = told_are_kept patience older
told_are_kept patience (event.Gone ∷ older) = told_are_kept patience older
told_are_kept patience (event.ClockFailed ∷ older) = told_are_kept patience older
told_are_kept patience (event.Heard came ∷ older) = told_are_kept patience older
told_are_kept patience (event.Deaf ∷ older) = told_are_kept patience older

-- a deed about a line of the main
about_line : (b : Bool) (line : ArrayVec ℕ 201 (Unit {0})) (deeds : List MainDeed)
    (lines : List (List ℕ)) → kept_lines deeds ≡ lines
    → kept_lines ((if b then Missing line else Kept line) ∷ deeds)
    ≡ (if b then lines else line.items ∷ lines)
about_line true line deeds lines same = same
about_line false line deeds lines same = ap (λ all. line.items ∷ all) same

about_comment : (b : Bool) (line : ArrayVec ℕ 201 (Unit {0})) (deeds : List MainDeed)
    (lines : List (List ℕ)) → missing_lines deeds ≡ lines
    → missing_lines ((if b then Missing line else Kept line) ∷ deeds)
    ≡ (if b then line.items ∷ lines else lines)
about_comment true line deeds lines same = ap (λ all. line.items ∷ all) same
about_comment false line deeds lines same = same

-- what is owed to a typed line keeps none
asked_keeps_none : (asks : Option Asked) (line : ArrayVec ℕ 201 (Unit {0})) (deeds : List MainDeed)
    → kept_lines (deeds_for_asked asks (Refused line) ++ deeds) ≡ kept_lines deeds
asked_keeps_none None line deeds = refl
asked_keeps_none (Some asked.Take) line deeds = refl
asked_keeps_none (Some asked.Where) line deeds = refl
asked_keeps_none (Some asked.Help) line deeds = refl
asked_keeps_none (Some asked.Other) line deeds = refl

asked_misses_none : (asks : Option Asked) (line : ArrayVec ℕ 201 (Unit {0})) (deeds : List MainDeed)
    → missing_lines (deeds_for_asked asks (Refused line) ++ deeds) ≡ missing_lines deeds
asked_misses_none None line deeds = refl
asked_misses_none (Some asked.Take) line deeds = refl
asked_misses_none (Some asked.Where) line deeds = refl
asked_misses_none (Some asked.Help) line deeds = refl
asked_misses_none (Some asked.Other) line deeds = refl

-- what is owed are the lines to follow, and the comments
due_lines : (events : List MainEvent)
    → (kept_lines (deeds_due events) ≡ lines_to_follow events)
    × (missing_lines (deeds_due events) ≡ comments_in events)
due_lines [] = (refl, refl)
due_lines (event.Came line ∷ older) =
    let rest = due_lines older in (
      about_line (is_comment line.items) line (deeds_due older) _ rest.0,
      about_comment (is_comment line.items) line (deeds_due older) _ rest.1,
    )
due_lines (event.Typed line ∷ older) =
    let rest = due_lines older in (
      asked_keeps_none (asked_by (words_of line.items)) line (deeds_due older) ∙ rest.0,
      asked_misses_none (asked_by (words_of line.items)) line (deeds_due older) ∙ rest.1,
    )
due_lines (event.Heard (came.Bytes count) ∷ older) = due_lines older
due_lines (event.Heard came.End ∷ older) = due_lines older
due_lines (event.Heard came.TypedEnd ∷ older) = due_lines older
due_lines (event.Heard came.Nothing ∷ older) = due_lines older
due_lines (event.Did deed ∷ older) = due_lines older
due_lines (event.Looked found ∷ older) = due_lines older
due_lines (event.Passed passed ∷ older) = due_lines older
due_lines (event.Began ∷ older) = due_lines older
due_lines (event.NothingTyped ∷ older) = due_lines older
due_lines (event.Unreadable ∷ older) = due_lines older
due_lines (event.Gone ∷ older) = due_lines older
due_lines (event.ClockFailed ∷ older) = due_lines older
due_lines (event.Deaf ∷ older) = due_lines older

pub follows_all : (patience : ℕ) (events : List MainEvent) → AreDone events
    → FollowsAll patience events
follows_all patience events done = record {
  kept = told_are_kept patience events;
  lines = told_are_kept patience events ∙ ap kept_lines done ∙ (due_lines events).0;
  comments = ap missing_lines done ∙ (due_lines events).1;
}

-- an end at a look is no line
at_look : (b : Bool) (older : List Led)
    → lines_told (if b then End ∷ older else older) ≡ lines_told older
at_look true older = refl
at_look false older = refl

-- the lines that a spare is told are those that the record gave
told_are_given : (events : List RecordEvent)
    → lines_told (told_by_record events) ≡ given_by_record events
told_are_given [] = refl
told_are_given (record_event.Gave line ∷ older) =
    ap (λ all. line.items ∷ all) (told_are_given older)
told_are_given (record_event.Looked true ∷ older) = told_are_given older
told_are_given (record_event.Looked false ∷ older) =
    at_look (has_had_lock older) (told_by_record older) ∙ told_are_given older
told_are_given (record_event.Tried is_had ∷ older) = told_are_given older
told_are_given (record_event.Failed ∷ older) = told_are_given older

pub takes_up : (events : List RecordEvent) (written : List (List ℕ)) → IsTakenUp events written
    → lines_told (told_by_record events) ≡ written
takes_up events written taken = told_are_given events ∙ sym taken.all
