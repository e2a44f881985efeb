-- What a link of a rehearsal keeps, and a universe's packets among it.
use Rattle.std.specs.Prelude.{ℕ, ◌+◌, ◌==◌, Bool, false, List, [], ◌∷◌, map, filter}
use Rattle.devices.specs.Send.{Send}
use Rattle.sacn_source.specs.Identity.{Identity}
use Rattle.sacn_source.specs.Stream.{Packet}
use Rattle.wire_world.specs.Datagrams.{packet_bytes}
use Rattle.wire_world.specs.declared.row.Row.{Row}

-- the packets, in the order in which they were sent; and whether there was no room for one
pub record SendStore : Type 0 where
  pub rows : List Row
  pub full : Bool

-- a packet is a send that did not fail
abbrev pub row_send : Row → Send
row_send row = record { universe = row.universe; bytes = row.bytes.items; failed = false }

-- what the link was offered
abbrev pub sends_of : SendStore → List Send
sends_of kept = map row_send kept.rows

-- the bytes that were sent to a universe, in order
abbrev pub sent_to : ℕ → List Send → List (List ℕ)
sent_to universe sends =
    map (λ send. send.bytes) (filter (λ send. send.universe == universe) sends)

-- the bytes of packets, the first of them packet k
abbrev pub packet_run : Identity → ℕ → ℕ → List Packet → List (List ℕ)
packet_run source universe k [] = []
packet_run source universe k (p ∷ ps) =
    packet_bytes source universe k p ∷ packet_run source universe (k + 1) ps
