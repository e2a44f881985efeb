-- Which packets the events to come want.
-- Of use inside the crate: what its public calls answer is said without these.
use Rattle.std.specs.Prelude.{◌≡◌, ℕ, ◌+◌, ◌*◌, ◌%◌, ◌^◌, ◌<◌, ◌≤◌, List, Some, slice_get}
use Rattle.std.specs.Prelude.{Option, slice_index}
use Rattle.std.specs.Option.{option_map}
use Rattle.wire_world.specs.declared.happening.Happening.{Happening}
use Rattle.wire_world.specs.declared.happening.Occurrence.{Occurrence}
use Rattle.wire_world.specs.declared.happening.Occurrence.TheVariants.{Deliver}
use Rattle.wire_world.specs.declared.handover.Handover.{Handover}
use Rattle.wire_world.specs.declared.stage.Stage.{Stage}
use Rattle.wire_world.specs.Shelves.{KeepsFrom, gone_of}

-- how many packets of a universe of a console are gone, and the last that would be kept
abbrev pub span_at : {F : Type 0} → List (Stage F) → ℕ → ℕ → Option (ℕ × ℕ)
span_at stages console universe = option_map
    (λ stage. (gone_of stage.shelves.items universe, stage.last)) (slice_get stages console)

-- what happens where a packet is handed over
abbrev pub hands_over : Handover → Occurrence
hands_over h = Deliver h.receiver h.console h.universe h.k

-- a packet that an event delivers is not gone, and will be kept
abbrev pub Holds : {F : Type 0} → List (Stage F) → Occurrence → Type 0
Holds {F} stages what =
    (r i u k : ℕ) (s : Stage F) → what ≡ Deliver r i u k → slice_get stages i ≡ Some s
    → (gone_of s.shelves.items u ≤ k) × (k ≤ s.last)

-- an event delivers no packet behind packet `last`
abbrev pub IsUpTo : ℕ → Occurrence → Type 0
IsUpTo last what = (r i u k : ℕ) → what ≡ Deliver r i u k → k ≤ last

-- none of them does
abbrev pub AreUpTo : List Happening → ℕ → Type 0
AreUpTo events last = (i : ℕ) (e : Happening) → slice_get events i ≡ Some e → IsUpTo last e.what

-- the later of two deliveries of one universe is of no packet before packet `low`
abbrev pub Spares : Occurrence → ℕ → Occurrence → Type 0
Spares what low later = (r i u k q n : ℕ) → what ≡ Deliver r i u k → later ≡ Deliver q i u n
    → low ≤ n

-- nothing before packet `low` is kept of the universe that was delivered
abbrev pub IsReleased : {F : Type 0} → List (Stage F) → Occurrence → ℕ → Type 0
IsReleased {F} stages what low = (r i u k : ℕ) (s : Stage F) → what ≡ Deliver r i u k
    → slice_get stages i ≡ Some s → KeepsFrom s.shelves.items u low

-- the row of a universe of a console in a table of 64
abbrev pub row_of : ℕ → ℕ → ℕ
row_of console universe = console % 4 * 16 + universe % 16

-- each event has the number of a packet, before which no later delivery of its universe is
abbrev pub AreLows : List Happening → List ℕ → Type 0
AreLows events lows = (i j : ℕ) (e f : Happening) → i < j → slice_get events i ≡ Some e
    → slice_get events j ≡ Some f → Spares e.what (slice_index lows i) f.what

-- an event delivers no packet before packet `low` in a row of the table
abbrev pub IsFrom : ℕ → ℕ → Occurrence → Type 0
IsFrom row low what = (r i u k : ℕ) → what ≡ Deliver r i u k → row_of i u ≡ row → low ≤ k

-- no later delivery in the row is before the number of a delivery, and no greater number would do
abbrev pub AreGreatest : List Happening → List ℕ → Type 0
AreGreatest events lows = (i r c u k low : ℕ) (e : Happening) → slice_get events i ≡ Some e
    → e.what ≡ Deliver r c u k → low < 2 ^ 64
    → ((j : ℕ) (f : Happening) → i < j → slice_get events j ≡ Some f
    → IsFrom (row_of c u) low f.what) → low ≤ slice_index lows i
