-- Whose night a record is, and whether it fits.
use Rattle.std.specs.Prelude.{◌≡◌, ◌≢◌, List, ℕ, true, false, Option, Some, None, Result}
use Rattle.std.specs.Prelude.{Ok, Err, bytes_eq}
use Rattle.arrayvec.specs.declared.array_vec.ArrayVec.{ArrayVec}
use Rattle.night_record.specs.Head.{HasForm, IsHead, head_text}
use Rattle.night_record.specs.Difference.{difference}
use Rattle.night_record.specs.declared.head.RecordHead.{RecordHead}
use Rattle.night_record.specs.declared.difference.Difference.TheVariants as part
use Rattle.night_record.specs.declared.unfit.Unfit.{Unfit}
use Rattle.night_record.specs.declared.unfit.Unfit.TheVariants as own
use Rattle.night_record.specs.declared.unfit.UnfitMain.{UnfitMain}
use Rattle.night_record.specs.declared.unfit.UnfitMain.TheVariants as main

-- two lines, without the last LF, are the head of a record
pub record SpellsHead (line : List ℕ) (head : RecordHead) : Type 0 where
  pub text : head_text head ≡ line
  pub form : HasForm head.started

-- two lines are the head of no record
abbrev pub IsNoHead : List ℕ → Type 0
IsNoHead line = (head : RecordHead) → IsHead head → head_text head ≡ line → ⊥

-- a night goes on in a record whose head is its own; when it was begun does not count
abbrev pub IsOwn : RecordHead → List ℕ → Result RecordHead Unfit → Type 0
IsOwn night line (Ok head) = SpellsHead line head × (difference head night ≡ None)
IsOwn night line (Err own.NoRecord) = IsNoHead line
IsOwn night line (Err (own.Other part head)) =
    SpellsHead line head × (difference head night ≡ Some part)

-- the show and the first universe are those of the night
abbrev pub IsOfShow : RecordHead → RecordHead → Type 0
IsOfShow head night = (bytes_eq head.show night.show ≡ true) × (head.base ≡ night.base)

-- a night follows the record of a main that plays the same show at the same universes, and sends
-- under another CID; priority and name do not count
abbrev pub IsMain : RecordHead → List ℕ → Result RecordHead UnfitMain → Type 0
IsMain night line (Ok head) =
    SpellsHead line head × IsOfShow head night × (bytes_eq head.cid night.cid ≡ false)
IsMain night line (Err main.NoRecord) = IsNoHead line
IsMain night line (Err (main.Other part.Show head)) =
    SpellsHead line head × (bytes_eq head.show night.show ≡ false)
IsMain night line (Err (main.Other part.Base head)) = SpellsHead line head
    × (bytes_eq head.show night.show ≡ true) × (head.base ≢ night.base)
IsMain night line (Err (main.Other _ head)) = ⊥
IsMain night line (Err main.SameCid) = (head : RecordHead) × SpellsHead line head
    × IsOfShow head night × (bytes_eq head.cid night.cid ≡ true)

-- a night takes up the lines that were found behind a head which is its own; where no head was
-- found, there is no record
abbrev pub TakesUpFound : {L : Type 0} → RecordHead → Option (ArrayVec ℕ 403 (Unit {0}) × L)
    → Result L Unfit → Type 0
TakesUpFound night None result = result ≡ Err own.NoRecord
TakesUpFound night (Some found) (Ok lines) =
    (lines ≡ found.1) × ((head : RecordHead) × IsOwn night found.0.items (Ok head))
TakesUpFound night (Some found) (Err unfit) = IsOwn night found.0.items (Err unfit)

-- a night follows the lines that were found behind the head of a main
abbrev pub FollowsFound : {L : Type 0} → RecordHead → Option (ArrayVec ℕ 403 (Unit {0}) × L)
    → Result (RecordHead × L) UnfitMain → Type 0
FollowsFound night None result = result ≡ Err main.NoRecord
FollowsFound night (Some found) (Ok main) =
    (main.1 ≡ found.1) × IsMain night found.0.items (Ok main.0)
FollowsFound night (Some found) (Err unfit) = IsMain night found.0.items (Err unfit)
