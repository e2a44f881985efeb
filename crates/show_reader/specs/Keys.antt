-- What can be asked of a show, and what a show answers.
use Rattle.std.specs.Prelude.{ℕ, Bool, if◌then◌else◌, Option, Some, None, option_and_then}
use Rattle.std.specs.FinMap as maps
use Rattle.show_reader.specs.Terms.{Tables, TimeName, TimeOf, time_in, Record, Cue, Group, Sub}
use Rattle.show_reader.specs.Terms.{Table, Cues, Groups, Subs, Patch}

-- what can be asked of a show; cues are named by their numbers in thousandths
pub data Key : Type 0 where
  There : Record → Key  -- is the record there?
  Level : Record → ℕ → Key  -- the level of a channel in a record
  Time : ℕ → TimeName → Key  -- a time of a cue
  Dimmer : ℕ → Key  -- how a dimmer is patched

-- what the answer is, where there is one: that the record is there; a level byte; a rate or a time;
-- the dimmer's channel and its level byte
abbrev pub KeyAnswer : Key → Type 0
KeyAnswer (There r) = Unit {0}
KeyAnswer (Level r channel) = ℕ
KeyAnswer (Time n name) = TimeOf name
KeyAnswer (Dimmer dimmer) = ℕ × ℕ

-- the table that a record is in
abbrev pub table_of : Record → Table
table_of (Cue n) = Cues
table_of (Group n) = Groups
table_of (Sub n) = Subs

-- the table that an answer is from
abbrev pub table_at : Key → Table
table_at (There r) = table_of r
table_at (Level r channel) = table_of r
table_at (Time n name) = Cues
table_at (Dimmer dimmer) = Patch

-- a show has a record
abbrev pub has_record : Tables → Record → Bool
has_record show (Cue n) = maps.contains_key show.cues n
has_record show (Group n) = maps.contains_key show.groups n
has_record show (Sub n) = maps.contains_key show.subs n

-- what a show answers
abbrev pub answer_for : Tables → (k : Key) → Option (KeyAnswer k)
answer_for show (There r) = if has_record show r then Some tt else None
answer_for show (Level (Cue n) channel) =
    option_and_then (λ cue. maps.get cue.levels channel) (maps.get show.cues n)
answer_for show (Level (Group n) channel) =
    option_and_then (λ levels. maps.get levels channel) (maps.get show.groups n)
answer_for show (Level (Sub n) channel) =
    option_and_then (λ levels. maps.get levels channel) (maps.get show.subs n)
answer_for show (Time n name) =
    option_and_then (λ cue. time_in cue name) (maps.get show.cues n)
answer_for show (Dimmer dimmer) = maps.get show.patch dimmer
