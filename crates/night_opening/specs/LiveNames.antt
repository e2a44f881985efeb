-- By which name a live night sends where none was given.
use Rattle.std.specs.Prelude.{◌≡◌, ◌⊎◌, ℕ, List, Option, Some, None}
use Rattle.std.specs.Str.{IsUtf8}
use Rattle.cmd_words.specs.Source.{name_on}
use Rattle.night_record.specs.Unfit.{IsNoHead, SpellsHead}
use Rattle.night_record.specs.declared.head.RecordHead.{RecordHead}

-- the name in the head that these lines are
abbrev pub IsRecordedName : Option (List ℕ) → Option (List ℕ) → Type 0
IsRecordedName None name = name ≡ None
IsRecordedName (Some lines) (Some name) =
    (head : RecordHead) × SpellsHead lines head × (name ≡ head.name)
IsRecordedName (Some lines) None = IsNoHead lines

-- the recorded name where it is text, or else that of the program on this machine
abbrev pub IsNameBy : Option (List ℕ) → List ℕ → List ℕ → Type 0
IsNameBy None machine name = name ≡ name_on machine
IsNameBy (Some recorded) machine name = (IsUtf8 recorded × (name ≡ recorded))
    ⊎ ((IsUtf8 recorded → ⊥) × (name ≡ name_on machine))
