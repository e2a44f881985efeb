-- What a spare is told of a record that another process plays. Lists have the newest first.
use Rattle.std.specs.Prelude.{◌≡◌, ℕ, Bool, true, false, List, [], ◌∷◌, ◌++◌, ◌||◌, ◌<◌, length}
use Rattle.std.specs.Prelude.{if◌then◌else◌}
use Rattle.cmd_live.specs.declared.main_console.Led.{Led}
use Rattle.cmd_live.specs.declared.main_console.Led.TheVariants.{Line, End}
use Rattle.cmd_live.specs.Told.{lines_told}
use Rattle.cmd_live.specs.declared.played_record.RecordEvent.{RecordEvent}
use Rattle.cmd_live.specs.declared.played_record.RecordEvent.TheVariants.{Gave, Looked}
use Rattle.cmd_live.specs.declared.played_record.RecordEvent.TheVariants.{Tried, Failed}

-- the lines that the record gave
abbrev pub given_by_record : List RecordEvent → List (List ℕ)
given_by_record [] = []
given_by_record (Gave line ∷ older) = line.items ∷ given_by_record older
given_by_record (_ ∷ older) = given_by_record older

-- its lock was had
abbrev pub has_had_lock : List RecordEvent → Bool
has_had_lock [] = false
has_had_lock (Tried is_had ∷ older) = is_had || has_had_lock older
has_had_lock (_ ∷ older) = has_had_lock older

-- what a spare is told: each line that the record gave; and an end where no more was found, once
-- the lock was had, or where the record could not be read or not be locked
abbrev pub told_by_record : List RecordEvent → List Led
told_by_record [] = []
told_by_record (Gave line ∷ older) = Line line ∷ told_by_record older
told_by_record (Looked false ∷ older) =
    if has_had_lock older then End ∷ told_by_record older else told_by_record older
told_by_record (Failed ∷ older) = End ∷ told_by_record older
told_by_record (_ ∷ older) = told_by_record older

-- these lines are the first of those that stand in the record, each once and in order
abbrev pub AreFirstLines : List (List ℕ) → List (List ℕ) → Type 0
AreFirstLines given written = (newer : List (List ℕ)) × (written ≡ newer ++ given)

-- once the lock was had, a look found no more: each line that stands in the record was given
pub record IsTakenUp (events : List RecordEvent) (written : List (List ℕ)) : Type 0 where
  pub older : List RecordEvent
  pub looked : events ≡ Looked false ∷ older
  pub locked : has_had_lock older ≡ true
  pub all : written ≡ given_by_record events

-- the record could not be read or not be locked
abbrev pub HasFailed : List RecordEvent → Type 0
HasFailed events = (older : List RecordEvent) × (events ≡ Failed ∷ older)

-- something happened of which a spare is told nothing
pub record IsQuiet (old new : List RecordEvent) : Type 0 where
  pub untold : told_by_record new ≡ told_by_record old
  pub more : length old < length new

-- whatever happened: once a record is taken up, the lines that the night was told are those that
-- stand in it, each once and in order
abbrev pub SpareLaw : Type 0
SpareLaw = (events : List RecordEvent) (written : List (List ℕ)) → IsTakenUp events written
    → lines_told (told_by_record events) ≡ written
