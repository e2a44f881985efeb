-- Why no night begins or goes on in a record.
use Rattle.std.specs.Prelude.{◌≡◌, ℕ, List, [], ◌∷◌, ◌++◌, Option, Some, None, codes, decimal}
use Rattle.hex.specs.Hex.{encode_lower}
use Rattle.uuid.specs.Text.{hyphenated_text, lower}
use Rattle.night_record.specs.declared.head.RecordHead.{RecordHead}
use Rattle.night_record.specs.declared.difference.Difference.{Difference}
use Rattle.night_record.specs.declared.difference.Difference.TheVariants as part
use Rattle.night_record.specs.declared.unfit.Unfit.{Unfit}
use Rattle.night_record.specs.declared.unfit.Unfit.TheVariants as own
use Rattle.night_record.specs.declared.unfit.UnfitMain.{UnfitMain}
use Rattle.night_record.specs.declared.unfit.UnfitMain.TheVariants as main
use Rattle.remarks.specs.Remarks.{remark_of, shown_name}
use Rattle.remarks.specs.declared.refusal.Refusal.{Refusal}

-- the line of a refusal
abbrev pub refusal_line : List ℕ → List ℕ
refusal_line what = codes "record: " ++ what ++ codes "\n"

-- a refusal is told by the line with this, and by this remark
pub record Rejects (what text : List ℕ) (refusal : Refusal) : Type 0 where
  pub line : refusal.line.bytes ≡ refusal_line what
  pub remark : refusal.remark.items ≡ text

-- what has no head
abbrev pub no_record : List ℕ
no_record = codes "no record of live"

-- what a night would go on in
abbrev pub record_rule : List ℕ
record_rule = codes "a night goes on in a file that live began: its first line says whose it is"

-- what a night would follow
abbrev pub main_rule : List ℕ
main_rule = codes "a main's record is one that live keeps: its first line says whose it is"

-- a main that sends under the CID of the night
abbrev pub shared_cid : List ℕ
shared_cid = codes "the same cid as --cid: a backup has a CID of its own"

-- where another CID comes from
abbrev pub cid_rule : List ℕ
cid_rule = codes "uuidgen prints one"

-- a night that has ended
abbrev pub night_over : List ℕ
night_over = codes "the night has ended"

-- a line of this number that does not follow from those before it
abbrev pub unlike_line : ℕ → List ℕ
unlike_line number = codes "line " ++ decimal number ++ codes " is none that live gives"

-- the lines of a record in which a night goes on
abbrev pub line_rule : List ℕ
line_rule = codes "a night goes on where each line is as live wrote it, and none is missing"

-- the lines of a record that a spare takes up
abbrev pub spare_line_rule : List ℕ
spare_line_rule =
    codes "a spare goes on where each line is as live wrote it, and none is missing"

-- the lines of a main's record
abbrev pub main_line_rule : List ℕ
main_line_rule = codes "a night follows where each line is as live wrote it"

-- a record that another process writes, by its number where that is known
abbrev pub in_use : Option ℕ → List ℕ
in_use None = codes "in use"
in_use (Some process) = codes "in use by process " ++ decimal process

-- what is to be done then
abbrev pub use_rule : List ℕ
use_rule = codes "lines of a night are written to it: end that night, or give another FILE"

-- a file with a night that goes on elsewhere than in the cue that was asked for
abbrev pub has_night : List ℕ → List ℕ
has_night file = shown_name file ++ codes " has a night; without --start it goes on"

-- what else can be done
abbrev pub other_file : List ℕ
other_file = codes ", or another FILE"

-- the shows of a record and of the night, by their checksums
abbrev pub show_parts : RecordHead → RecordHead → List (List ℕ)
show_parts head night = codes "the record is of the show with SHA-256 " ∷ encode_lower head.show
    ∷ codes ", and SHOW has " ∷ encode_lower night.show
    ∷ codes ": give the show of the record" ∷ other_file ∷ []

-- their CIDs
abbrev pub cid_parts : RecordHead → RecordHead → List (List ℕ)
cid_parts head night = codes "the record has " ∷ hyphenated_text lower head.cid
    ∷ codes ", and the night " ∷ hyphenated_text lower night.cid
    ∷ codes ": give the CID of the record" ∷ other_file ∷ []

-- two numbers, and the option that gives one
abbrev pub number_parts : List ℕ → ℕ → ℕ → List (List ℕ)
number_parts option theirs ours = codes "the record has " ∷ decimal theirs
    ∷ codes ", and the night " ∷ decimal ours
    ∷ codes ": give " ∷ option ∷ decimal theirs ∷ other_file ∷ []

-- the names of their sources
abbrev pub name_parts : RecordHead → RecordHead → List (List ℕ)
name_parts head night = codes "the record is of " ∷ head.name
    ∷ codes ", and this is " ∷ night.name
    ∷ codes ": give the --name of the record" ∷ other_file ∷ []

-- in what a record is not of the night
abbrev pub other_line : Difference → List ℕ
other_line part.Show = codes "another show"
other_line part.Cid = codes "another cid"
other_line part.Priority = codes "another priority"
other_line part.Base = codes "another base"
other_line part.Name = codes "another name"

-- what each has there
abbrev pub other_parts : Difference → RecordHead → RecordHead → List (List ℕ)
other_parts part.Show head night = show_parts head night
other_parts part.Cid head night = cid_parts head night
other_parts part.Priority head night =
    number_parts (codes "--priority ") head.priority night.priority
other_parts part.Base head night = number_parts (codes "--base ") head.base night.base
other_parts part.Name head night = name_parts head night

-- why a night does not go on in its own record
abbrev pub IsUnfit : Unfit → RecordHead → Refusal → Type 0
IsUnfit own.NoRecord night refusal = Rejects no_record (remark_of (record_rule ∷ [])) refusal
IsUnfit (own.Other part head) night refusal =
    Rejects (other_line part) (remark_of (other_parts part head night)) refusal

-- and why it does not follow the record of a main
abbrev pub IsUnfitMain : UnfitMain → RecordHead → Refusal → Type 0
IsUnfitMain main.NoRecord night refusal = Rejects no_record (remark_of (main_rule ∷ [])) refusal
IsUnfitMain (main.Other part head) night refusal =
    Rejects (other_line part) (remark_of (other_parts part head night)) refusal
IsUnfitMain main.SameCid night refusal = Rejects shared_cid (remark_of (cid_rule ∷ [])) refusal
