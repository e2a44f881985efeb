-- What a sender that tells was offered.
use Rattle.std.specs.Prelude.{◌≡◌, ℕ, Bool, List, [], ◌∷◌, ◌++◌, fold, map}
use Rattle.std.specs.List.{list_any}
use Rattle.devices.specs.Send.{Send}
use Rattle.targets.specs.Choice.{addresses_of}
use Rattle.targets.specs.declared.address.Address.{Address}
use Rattle.targets.specs.declared.target.Target.{Target}

-- one datagram: where to, its bytes, and whether the send failed
pub record Datagram : Type 0 where
  pub to : Address
  pub bytes : List ℕ
  pub failed : Bool

-- one packet: its universe and its bytes, and the datagrams that were sent of it
pub record Packet : Type 0 where
  pub universe : ℕ
  pub bytes : List ℕ
  pub datagrams : List Datagram

-- a datagram more of the last packet
abbrev pub with_datagram : List Packet → Datagram → List Packet
with_datagram [] datagram = []
with_datagram (packet ∷ []) datagram =
    record packet { datagrams = packet.datagrams ++ datagram ∷ [] } ∷ []
with_datagram (packet ∷ next ∷ behind) datagram =
    packet ∷ with_datagram (next ∷ behind) datagram

-- some more, each in its turn
abbrev pub with_datagrams : List Packet → List Datagram → List Packet
with_datagrams packets sent = fold with_datagram packets sent

-- each address was offered these bytes, in this order, whatever became of the sends before
pub record IsSentTo (addresses : List Address) (bytes : List ℕ) (sent : List Datagram)
    : Type 0 where
  pub in_order : map (λ datagram. datagram.to) sent ≡ addresses
  pub whole : map (λ datagram. datagram.bytes) sent ≡ map (λ _. bytes) addresses

-- whether one of the sends failed
abbrev pub has_failed : List Datagram → Bool
has_failed sent = list_any (λ datagram. datagram.failed) sent

-- A PACKET GOES TO ALL ADDRESSES OF ITS UNIVERSE: its datagrams have its bytes, and are one to each
-- of these addresses, in the order in which the targets were named
abbrev pub IsToAll : List Target → Packet → Type 0
IsToAll targets packet =
    IsSentTo (addresses_of packet.universe targets) packet.bytes packet.datagrams

-- the send that a packet is to its source: it failed if one of its datagrams did
abbrev pub send_of : Packet → Send
send_of packet = record {
  universe = packet.universe;
  bytes = packet.bytes;
  failed = has_failed packet.datagrams;
}
