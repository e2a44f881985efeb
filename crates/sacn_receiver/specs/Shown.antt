-- What a receiver shows: of its live sources, those of greatest priority, merged slot by slot.
use Rattle.std.specs.Prelude.{ℕ, ◌==◌, not, List, [], ◌∷◌, filter, map, max, slice_index}
use Rattle.std.specs.List.{range_with_len}
use Rattle.sacn_receiver.specs.Source.{Entry, records}

-- the live records: those that are there and no termination
abbrev pub live : List Entry → ℕ → List Entry
live h t = filter (λ e. not e.ended) (records h t)

-- the greatest of some numbers; 0 where there is none
abbrev pub greatest : List ℕ → ℕ
greatest [] = 0
greatest (x ∷ xs) = max x (greatest xs)

-- what counts of a live record
pub record Light : Type 0 where
  pub priority : ℕ
  pub slots : List ℕ

abbrev pub light_of : Entry → Light
light_of e = record { priority = e.priority; slots = e.slots }

-- those of the greatest priority (E1.31-2018, priority)
abbrev pub leaders : List Light → List Light
leaders lights = filter (λ l. l.priority == greatest (map (λ m. m.priority) lights)) lights

-- slot s, counted from 0, of all of them together: the greatest value among those of the greatest
-- priority, 0 where there is none (E1.31-2018, requirements for merging and arbitrating)
abbrev pub merged_slot : List Light → ℕ → ℕ
merged_slot lights s = greatest (map (λ l. slice_index l.slots s) (leaders lights))

-- slot s at moment t
abbrev pub shown_slot : List Entry → ℕ → ℕ → ℕ
shown_slot h t s = merged_slot (map light_of (live h t)) s

-- the 512 slots at moment t
abbrev pub shown_slots : List Entry → ℕ → List ℕ
shown_slots h t = map (shown_slot h t) (range_with_len 0 512)
