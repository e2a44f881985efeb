-- Where the packets of a source go, as addressed datagrams.
use Rattle.std.specs.Prelude.{◌≡◌, ℕ, All, List, flat_map, map}
use Rattle.devices.specs.Send.{Send}
use Rattle.targets.specs.Choice.{addresses_of}
use Rattle.targets.specs.Datagram.{IsToAll, Packet, send_of}
use Rattle.targets.specs.declared.address.Address.{Address}
use Rattle.targets.specs.declared.target.Target.{Target}

-- a datagram of a universe, and where it goes
pub record Addressed : Type 0 where
  pub universe : ℕ
  pub to : Address
  pub bytes : List ℕ

-- these bytes of a universe, at an address
abbrev pub at_address : ℕ → List ℕ → Address → Addressed
at_address universe bytes to = record { universe = universe; to = to; bytes = bytes }

-- the datagrams of a send: one to each address of its universe
abbrev pub addressed_send : List Target → Send → List Addressed
addressed_send targets send =
    map (at_address send.universe send.bytes) (addresses_of send.universe targets)

-- THE ADDRESSED DATAGRAMS of what a source sends, by the targets alone
abbrev pub addressed : List Target → List Send → List Addressed
addressed targets sends = flat_map (addressed_send targets) sends

-- those that a sender was offered
abbrev pub addressed_packet : Packet → List Addressed
addressed_packet packet =
    map (λ datagram. at_address packet.universe datagram.bytes datagram.to) packet.datagrams

abbrev pub datagrams_of : List Packet → List Addressed
datagrams_of packets = flat_map addressed_packet packets

-- WHAT A SENDER WAS OFFERED IS WHAT THE SOURCE SENDS, address by address, whatever fails
abbrev pub AddressedLaw : Type 0
AddressedLaw = (targets : List Target) (packets : List Packet) → All (IsToAll targets) packets
    → datagrams_of packets ≡ addressed targets (map send_of packets)
