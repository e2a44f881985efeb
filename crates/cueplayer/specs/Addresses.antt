-- Where the datagrams of a play go, over a link to targets.
use Rattle.std.specs.Prelude.{◌≡◌, ℕ, ◌<◌, ◌++◌, ◌==◌, All, List, [], filter, length, map, Result}
use Rattle.std.specs.Prelude.{slice_index_or}
use Rattle.devices.specs.Send.{Send}
use Rattle.devices.specs.Tape.{Tape}
use Rattle.targets.specs.Addressed.{addressed, datagrams_of}
use Rattle.targets.specs.Choice.{addresses_of}
use Rattle.targets.specs.Datagram.{IsToAll, Packet, send_of}
use Rattle.targets.specs.declared.target.Target.{Target}
use Rattle.console.specs.Streams.{Production}
use Rattle.cmd_faults.specs.declared.fault.RunFault.{RunFault}
use Rattle.cmd_live.specs.Night.{HasLived, Trace, answers_since}
use Rattle.cmd_play.specs.Play.{Plays}
use Rattle.cmd_play.specs.Run.{Emission}
use Rattle.live_input.specs.Night.{Happening, answers, lines_given}
use Rattle.wire_world.specs.Sends.{packet_run}
use Rattle.cueplayer.specs.Plays.{Play, IsPlay, stream_for}
use Rattle.cueplayer.specs.Restarts.{play_on}

-- the sends of a play went out as these packets, each to all addresses of its universe, as those of
-- a link to targets do
pub record WentOut (play : Play) (targets : List Target) (packets : List Packet) : Type 0 where
  pub to_all : All (IsToAll targets) packets
  pub sends_are : map send_of packets ≡ play.offered

-- what was sent of a universe to one of its addresses, which have their places by the order in
-- which the targets were named
abbrev pub bytes_at : ℕ → ℕ → List Packet → List (List ℕ)
bytes_at universe place packets =
    map (λ packet. slice_index_or (map (λ datagram. datagram.bytes) packet.datagrams) place [])
    (filter (λ packet. packet.universe == universe) packets)

-- the datagrams are the sends, one to each address of its universe, and nothing else; and each
-- address of a universe is sent the stream of that universe, packet by packet
pub record IsAddressed (play : Play) (targets : List Target) (packets : List Packet)
    : Type 0 where
  pub datagrams_are : datagrams_of packets ≡ addressed targets play.offered
  pub streams : (universe place : ℕ) → place < length (addresses_of universe targets)
      → bytes_at universe place packets
      ≡ packet_run play.production.source universe 0 (stream_for play universe)

-- EACH ADDRESS IS SENT THE STREAM, whatever failed
abbrev pub AddressesGetTheStream : Type 0
AddressesGetTheStream =
    (play : Play) (targets : List Target) (packets : List Packet) → IsPlay play
    → WentOut play targets packets → IsAddressed play targets packets

-- so it is of whatever a `play` did that began with these packets
abbrev pub PlaysAreAddressed : Type 0 → Type 0
PlaysAreAddressed ended =
    (p : Production) (result : Result (Unit {0}) RunFault) (fed feeds : Tape ℕ)
    (before after : Emission) → Plays p result ended fed feeds before after
    → (targets : List Target) (packets : List Packet) → All (IsToAll targets) packets
    → after.offered ≡ before.offered ++ map send_of packets
    → (lines : List (List ℕ)) × (let play : Play =
    record { production = p; lines = lines; offered = map send_of packets } in
    IsPlay play × IsAddressed play targets packets)

-- and of a live night, with what went out before it where it went on behind a play
abbrev pub NightsAreAddressed : Type 0
NightsAreAddressed =
    (play : Play) (first : List Happening) (passed : ℕ) (result : Result (Unit {0}) RunFault)
    (before after : Trace) → IsPlay play → play.lines ≡ lines_given (answers first)
    → HasLived play.production first passed result before after
    → (happened : List Happening) (offered : List Send)
    → after.booth.happened ≡ happened ++ before.booth.happened
    → after.offered ≡ before.offered ++ offered
    → (let all = play_on play (lines_given (answers_since first happened)) offered in
    (targets : List Target) (packets : List Packet) → WentOut all targets packets
    → IsAddressed all targets packets)
