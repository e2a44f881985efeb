-- The notes on dimmers that are patched to one channel and then to another. Lists of lines have the
-- last line first.
use Rattle.std.specs.Prelude.{◌≡◌, ℕ, ◌+◌, ◌==◌, ◌&&◌, Bool, not, if◌then◌else◌, List, [], ◌∷◌}
use Rattle.std.specs.Prelude.{◌++◌}
use Rattle.std.specs.Prelude.{Option, Some, None, codes, decimal, length}
use Rattle.std.specs.BTreeMap.{get}
use Rattle.std.specs.Ordering.{nat_cmp}
use Rattle.show_line.specs.declared.statement.Statement.{Statement}
use Rattle.show_line.specs.declared.statement.Statement.TheVariants.{Clears, Patches}
use Rattle.show_line.specs.declared.statement.Table.TheVariants.{Patch}
use Rattle.show_line.specs.declared.triples.Triple.{Triple}
use Rattle.show_reader.specs.Meaning.{empties}
use Rattle.cmd_explain.specs.declared.patch_notes.DimmerPatch.{DimmerPatch}
use Rattle.cmd_explain.specs.declared.patch_notes.PatchNotes.{PatchNotes}
use Rattle.cmd_explain.specs.LineNotes.{NoteKind, note_on, desk_statement, notes_of_kind}

-- where each dimmer is patched, and by which line
abbrev pub PatchSheet : Type 0
PatchSheet = ℕ → Option DimmerPatch

-- behind a triple on the line of this number; channel 0 leaves its dimmer unpatched
abbrev pub sheet_after_triple : ℕ → Triple → PatchSheet → PatchSheet
sheet_after_triple number t sheet dimmer =
    if t.dimmer == dimmer
    then (if t.channel == 0 then None else Some (record { channel = t.channel; line = number }))
    else sheet dimmer

-- behind triples, one after the other
abbrev pub sheet_after_triples : ℕ → List Triple → PatchSheet → PatchSheet
sheet_after_triples number [] sheet = sheet
sheet_after_triples number (t ∷ triples) sheet =
    sheet_after_triples number triples (sheet_after_triple number t sheet)

-- behind a line of this number, which says this
abbrev pub sheet_after : ℕ → Statement → PatchSheet → PatchSheet
sheet_after number (Patches triples) sheet = sheet_after_triples number triples sheet
sheet_after number (Clears what) sheet =
    if empties what Patch then (λ dimmer. None) else sheet
sheet_after number _ sheet = sheet

-- behind lines
abbrev pub sheet_below : List (List ℕ) → PatchSheet
sheet_below [] = λ dimmer. None
sheet_below (line ∷ above) =
    sheet_after (length above + 1) (desk_statement above line) (sheet_below above)

-- ---- the notes

abbrev pub new_patch_text : Triple → List ℕ
new_patch_text t =
    codes "dimmer " ++ decimal t.dimmer ++ codes " is patched to channel " ++ decimal t.channel

abbrev pub old_patch_text : DimmerPatch → List ℕ
old_patch_text old =
    codes ", and on line " ++ decimal old.line ++ codes " to channel " ++ decimal old.channel
    ++ codes ": the last counts"

-- a triple patches a dimmer to a channel, and it is patched to another one
abbrev pub is_other : Triple → DimmerPatch → Bool
is_other t old = not (t.channel == 0) && not (t.channel == old.channel)

abbrev pub triple_note : ℕ → Triple → Option DimmerPatch → List ℕ
triple_note number t (Some old) =
    if is_other t old then note_on number (new_patch_text t ++ old_patch_text old) else []
triple_note number t None = []

-- of triples, each by what is patched behind those before it
abbrev pub triple_notes : ℕ → List Triple → PatchSheet → List ℕ
triple_notes number [] sheet = []
triple_notes number (t ∷ triples) sheet =
    triple_note number t (sheet t.dimmer)
    ++ triple_notes number triples (sheet_after_triple number t sheet)

abbrev pub patch_note_on : ℕ → Statement → PatchSheet → List ℕ
patch_note_on number (Patches triples) sheet = triple_notes number triples sheet
patch_note_on number _ sheet = []

abbrev pub patch_note : NoteKind
patch_note above line =
    patch_note_on (length above + 1) (desk_statement above line) (sheet_below above)

-- ---- what is kept of lines

abbrev pub sheet_of : PatchNotes → PatchSheet
sheet_of those = get nat_cmp those.sheet

-- the sheet and the notes of lines
pub record ArePatchNotesOf (lines : List (List ℕ)) (those : PatchNotes) : Type 0 where
  pub sheet : sheet_of those ≡ sheet_below lines
  pub notes : those.notes.items ≡ notes_of_kind patch_note lines

-- what a line of this number adds, which says this
pub record IsPatchTaken (number : ℕ) (says : Statement) (old new : PatchNotes) : Type 0 where
  pub sheet : sheet_of new ≡ sheet_after number says (sheet_of old)
  pub notes : new.notes.items ≡ old.notes.items ++ patch_note_on number says (sheet_of old)
