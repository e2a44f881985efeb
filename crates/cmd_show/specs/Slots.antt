-- What `slots` prints of a show, and why it ends with a fault.
use Rattle.std.specs.Prelude.{◌≡◌, ℕ, ◌+◌, true, List, ◌++◌, flat_map, codes, decimal, None}
use Rattle.std.specs.Prelude.{IsTrue, IsFalse, IsSomeAnd}
use Rattle.std.specs.FinMap as maps
use Rattle.show_core.specs.Tables.{LevelMap, PatchMap}
use Rattle.show_core.specs.Readers.{patch_ordinals, look_frame}
use Rattle.show_line.specs.Said.{desk_limits}
use Rattle.show_line.specs.declared.statement.Record.TheVariants.{Cue}
use Rattle.show_reader.specs.ItsShow.{OfItsShow}
use Rattle.show_reader.specs.Meaning.{is_record_there}
use Rattle.show_reader.specs.Reading.{text_fault}
use Rattle.show_reader.specs.Text.{statements_of}
use Rattle.patch_core.specs.Frame.{is_base}
use Rattle.sacn_receiver.specs.Replies.{slots_line}
use Rattle.cmd_faults.specs.declared.fault.RunFault.{RunFault}
use Rattle.cmd_faults.specs.declared.fault.RunFault.TheVariants as run
use Rattle.cmd_show.specs.Faults.{LookFails}

-- the lines of a universe: its number, and its slots
abbrev pub universe_lines : ℕ → List ℕ → List ℕ
universe_lines universe slots =
    codes "universe " ++ decimal universe ++ codes "\n" ++ slots_line slots

-- those of an ordinal's universe, with the levels alone at full; the base is the number of ordinal
-- 0
abbrev pub ordinal_lines : LevelMap → PatchMap → ℕ → ℕ → List ℕ
ordinal_lines levels patch base ordinal =
    universe_lines (base + ordinal) (look_frame levels patch ordinal)

-- the text of `slots`: the lines of each universe that has a patched dimmer, ascending
abbrev pub slots_text : LevelMap → PatchMap → ℕ → List ℕ
slots_text levels patch base = flat_map (ordinal_lines levels patch base) (patch_ordinals patch)

-- what `slots` prints of a cue of a show text; the cue is there
abbrev pub IsSlotsOf : List ℕ → ℕ → ℕ → List ℕ → Type 0
IsSlotsOf show cue base text = OfItsShow show (λ s.
    IsSomeAnd (maps.get s.cues cue) (λ look. text ≡ slots_text look.levels s.patch base))

-- with this base the universes of the show have numbers, or one of them has none
abbrev pub HasNumbers : List ℕ → ℕ → Type 0
HasNumbers show base = OfItsShow show (λ s. IsTrue (is_base s.patch base))

abbrev pub LacksNumbers : List ℕ → ℕ → Type 0
LacksNumbers show base = OfItsShow show (λ s. IsFalse (is_base s.patch base))

-- the show was read, and the cue is there
abbrev pub HasCue : List ℕ → ℕ → Type 0
HasCue show cue =
    (text_fault desk_limits show ≡ None)
    × (is_record_there (Cue cue) (statements_of desk_limits show) ≡ true)

-- `slots`: it fails as `look` does; or the cue is there, and a universe has no number; or all have
-- one, and the output failed
abbrev pub SlotsFails : List ℕ → ℕ → ℕ → RunFault → Type 0
SlotsFails show cue base run.Base = HasCue show cue × LacksNumbers show base
SlotsFails show cue base run.Device = HasCue show cue × HasNumbers show base
SlotsFails show cue base fault = LookFails show cue fault
