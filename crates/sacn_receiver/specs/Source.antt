-- The source rule: which packets of a universe a receiver accepts, after those that it accepted
-- before.
use Rattle.std.specs.Prelude.{ℕ, ◌+◌, ◌-◌, ◌%◌, Bool, not, ◌&&◌, List, [], ◌∷◌, length, nat_le}
use Rattle.std.specs.Prelude.{nat_lt, if◌then◌else◌, Option, Some, None, filter, find}
use Rattle.std.specs.Str.{bytes_eq}

-- an accepted packet, with the moment in milliseconds when it came. A history is the list of them,
-- the newest first
pub record Entry : Type 0 where
  pub cid : List ℕ
  pub number : ℕ
  pub moment : ℕ
  pub priority : ℕ
  pub slots : List ℕ
  pub ended : Bool

-- it came from the source with this CID
abbrev pub same_cid : List ℕ → Entry → Bool
same_cid cid e = bytes_eq cid e.cid

-- a record is there for less than 2,500 ms (E1.31-2018, network data loss)
abbrev pub is_there : ℕ → Entry → Bool
is_there t e = nat_lt (t - e.moment) 2500

-- the newest packet of each CID
abbrev pub newest : List Entry → List Entry
newest [] = []
newest (e ∷ h) = e ∷ filter (λ f. not (same_cid e.cid f)) (newest h)

-- the records that are there at moment t
abbrev pub records : List Entry → ℕ → List Entry
records h t = filter (is_there t) (newest h)

-- the record of a CID at moment t: its newest packet, while that is there
abbrev pub while_there : ℕ → Option Entry → Option Entry
while_there t None = None
while_there t (Some e) = if is_there t e then Some e else None

abbrev pub record_of : List Entry → ℕ → List ℕ → Option Entry
record_of h t cid = while_there t (find (same_cid cid) h)

-- number b comes after number a: it is 1 to 236 ahead, as numbers of a byte. Of the other
-- distances, 0 and 237 to 255, b is deemed 0 to 19 behind (E1.31-2018, sequence numbering)
abbrev pub is_after : ℕ → ℕ → Bool
is_after a b = nat_le 1 ((b + 256 - a) % 256) && nat_le ((b + 256 - a) % 256) 236

-- with a record of its CID the number decides, without one the room: there are fewer records than
-- that
abbrev pub is_taken : ℕ → Option Entry → ℕ → ℕ → Bool
is_taken room None count number = nat_lt count room
is_taken room (Some e) count number = is_after e.number number

-- after a history, a packet of this CID with this number is accepted at moment t, by a receiver
-- with room for so many records
abbrev pub is_accepted : ℕ → List Entry → ℕ → List ℕ → ℕ → Bool
is_accepted room h t cid number = is_taken room (record_of h t cid) (length (records h t)) number

-- the moment of the last accepted packet; 0 before
abbrev pub last_moment : List Entry → ℕ
last_moment [] = 0
last_moment (e ∷ h) = e.moment
