-- What a live input keeps, against what happened to it.
use Rattle.std.specs.Prelude.{◌≡◌, ◌∷◌, ◌++◌, [], ℕ, List, length, drop, fold, Option, Some, None}
use Rattle.live_input.specs.declared.given.GivenLine.{GivenLine}
use Rattle.live_input.specs.Kept.{InputState, TypedKept}
use Rattle.live_input.specs.Night.{Happening, answers, bytes_come, ends_with_input}
use Rattle.live_input.specs.Night.{ignored_keys, lines_answered, now}
use Rattle.live_input.specs.Recall.{IsRecalled, recall_line}
use Rattle.live_input.specs.Told.{IsGiven, Leaves}
use Rattle.live_input.specs.Typed.{typed_of, with_typed_byte}

-- these bytes came, and these lines were taken: what was not taken yet makes of them what all bytes
-- make
abbrev pub TypedStands : TypedKept → List ℕ → List (List ℕ) → Type 0
TypedStands kept bytes taken =
    fold with_typed_byte (record { lines = taken; rest = kept.line }) kept.unread ≡ typed_of bytes

-- the line after those that were taken of these bytes
abbrev pub IsNext : List ℕ → List ℕ → List (List ℕ) → Type 0
IsNext line bytes taken =
    (later : List (List ℕ)) × (drop (length taken) (typed_of bytes).lines ≡ line ∷ later)

-- a line was taken, or none was left to be taken of what is kept
abbrev pub TakesLine : TypedKept → TypedKept → Option (List ℕ) → Type 0
TakesLine old new None =
    (bytes : List ℕ) (taken : List (List ℕ)) → TypedStands old bytes taken
    → TypedStands new bytes taken
TakesLine old new (Some line) =
    (bytes : List ℕ) (taken : List (List ℕ)) → TypedStands old bytes taken
    → IsNext line bytes taken × TypedStands new bytes (taken ++ line ∷ [])

-- each part that it keeps is what the happenings leave
pub record StandsFor (kept : InputState) (happenings : List Happening) : Type 0 where
  pub typed_stands : TypedStands kept.typed (bytes_come happenings)
      (lines_answered (answers happenings))
  pub ends_is : kept.ends ≡ ends_with_input happenings
  pub now_is : kept.now ≡ now happenings
  pub keys_is : kept.keys ≡ ignored_keys (answers happenings)
  pub leaves : Leaves kept.progress (answers happenings)

-- this leads from one input to another: the new one stands for what happened to the old one, and
-- this behind it
abbrev pub Leads : Happening → InputState → InputState → Type 0
Leads happening old new = (happened : List Happening) → StandsFor old happened
    → StandsFor new (happening ∷ happened)

-- a line of a record was given again behind these happenings
pub record Recalls (old new : InputState) (line : List ℕ) (given : GivenLine)
    (happened : List Happening) : Type 0 where
  pub stands : StandsFor new (recall_line line happened)
  pub is_given : IsGiven given line
  pub is_recalled : IsRecalled line happened
