-- What comes to a receiver: datagrams at their moments, and the history that they leave.
use Rattle.std.specs.Prelude.{◌≤◌, ℕ, Bool, IsTrue, List, [], ◌∷◌, filter, map, Option, is_none}
use Rattle.std.specs.Prelude.{All, Contains}
use Rattle.std.specs.Option.{option_or, option_map}
use Rattle.std.specs.Str.{bytes_eq}
use Rattle.sacn_packet.specs.Reading.{front_packet}
use Rattle.sacn_packet.specs.Faults.{fault_of}
use Rattle.sacn_receiver.specs.declared.answer.Ignored.{Ignored}
use Rattle.sacn_receiver.specs.declared.answer.Ignored.TheVariants.{Unreadable}
use Rattle.sacn_receiver.specs.Source.{Entry}
use Rattle.sacn_receiver.specs.Taking.{accepted_entry, off_reason, history_after}

-- a datagram, with the moment in milliseconds when it was handed in; in lists the newest is first
pub record Arrival : Type 0 where
  pub moment : ℕ
  pub datagram : List ℕ

-- the history of a receiver of a universe, with room for so many records, after these arrivals:
-- what it accepted of them
abbrev pub heard_all : ℕ → ℕ → List Arrival → List Entry
heard_all room universe [] = []
heard_all room universe (a ∷ older) =
    history_after room universe (heard_all room universe older) a.moment a.datagram

-- the moment of the newest arrival; 0 before
abbrev pub last_arrival : List Arrival → ℕ
last_arrival [] = 0
last_arrival (a ∷ older) = a.moment

-- the moments never fall: none is before that of the arrival before it
abbrev pub NeverFall : List Arrival → Type 0
NeverFall [] = Unit {0}
NeverFall (a ∷ older) = (last_arrival older ≤ a.moment) × NeverFall older

-- why a datagram is not heard on a universe, whatever came before: there is no data packet in it,
-- or one that is not meant for the universe's stage
abbrev pub not_heard : ℕ → List ℕ → Option Ignored
not_heard universe datagram =
    option_or (option_map Unreadable (fault_of datagram))
    (off_reason universe (front_packet datagram))

-- it is heard: there is a packet of the universe in it, with data for the stage
abbrev pub is_heard : ℕ → Arrival → Bool
is_heard universe a = is_none (not_heard universe a.datagram)

-- the CID of the source that it comes from, as its packet has it; without a packet it says nothing
abbrev pub cid_of : Arrival → List ℕ
cid_of a = (front_packet a.datagram).fields.cid

-- it comes from the source with this CID
abbrev pub is_from : List ℕ → Arrival → Bool
is_from cid a = bytes_eq cid (cid_of a)

-- each that is heard on the universe comes from one of these sources. What is not heard may come
-- from anywhere
abbrev pub HeardAreFrom : List (List ℕ) → ℕ → List Arrival → Type 0
HeardAreFrom cids universe arrivals =
    All (λ a. IsTrue (is_heard universe a) → Contains cids (cid_of a)) arrivals

-- the packets that are heard, as they would be accepted
abbrev pub packets_heard : ℕ → List Arrival → List Entry
packets_heard universe arrivals =
    map (λ a. accepted_entry a.moment (front_packet a.datagram))
    (filter (is_heard universe) arrivals)
