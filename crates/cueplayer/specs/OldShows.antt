-- Shows of a desk with less room.
use Rattle.std.specs.Prelude.{◌≡◌, ℕ, ◌+◌, List, None, filter, map}
use Rattle.std.specs.List.{range_with_len}
use Rattle.desk_core.specs.Meaning.{frame, universe_numbers}
use Rattle.desk_core.specs.Played.{Act}
use Rattle.show_core.specs.Readers.{has_dimmer_in}
use Rattle.show_core.specs.Tables.{Tables}
use Rattle.show_line.specs.Pairs.{Limits}
use Rattle.show_line.specs.Said.{desk_limits}
use Rattle.show_reader.specs.Reading.{text_fault}
use Rattle.show_reader.specs.Shows.{IsShowOf}
use Rattle.show_reader.specs.Text.{statements_of}

-- the room of an old desk: 2,048 channels and 4,096 dimmers, so eight universes
abbrev pub old_limits : Limits
old_limits = record { channels = 2048; dimmers = 4096 }

-- both shows mean the same: at each tick the same frame of each ordinal; and the universes of the
-- newer one are those of the eight that the older one has
pub record MeanAlike (old new : Tables) : Type 0 where
  pub frames : (history : List Act) (moment ordinal : ℕ)
      → frame new history moment ordinal ≡ frame old history moment ordinal
  pub universes : (base : ℕ) → universe_numbers new.patch base
      ≡ map (λ ordinal. base + ordinal) (filter (has_dimmer_in old.patch) (range_with_len 0 8))

-- OLD SHOWS MEAN THE SAME. What a text means to an old desk that finds no fault in it, it means to
-- this one
abbrev pub OldShowsLaw : Type 0
OldShowsLaw = (text : List ℕ) (old new : Tables) → text_fault old_limits text ≡ None
    → IsShowOf (statements_of old_limits text) old → IsShowOf (statements_of desk_limits text) new
    → MeanAlike old new
