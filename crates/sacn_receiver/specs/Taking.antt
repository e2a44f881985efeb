-- What a receiver makes of a datagram: the packet in it, whether it is accepted, and why not.
use Rattle.std.specs.Prelude.{ℕ, ◌-◌, ◌==◌, Bool, false, not, ◌&&◌, List, [], ◌∷◌, ◌++◌, length}
use Rattle.std.specs.Prelude.{replicate, find, nat_lt, bit_and, if◌then◌else◌, Option, Some, None}
use Rattle.std.specs.Prelude.{Result, Ok, Err}
use Rattle.std.specs.Option.{option_or, option_map, option_map_or}
use Rattle.sacn_packet.specs.Wire.{WirePacket}
use Rattle.sacn_packet.specs.Reading.{front_packet}
use Rattle.sacn_packet.specs.Faults.{fault_of}
use Rattle.sacn_receiver.specs.declared.answer.Taken.{Taken}
use Rattle.sacn_receiver.specs.declared.answer.Ignored.{Ignored}
use Rattle.sacn_receiver.specs.declared.answer.Ignored.TheVariants.{Backwards, Unreadable}
use Rattle.sacn_receiver.specs.declared.answer.Ignored.TheVariants.{OtherUniverse, Preview}
use Rattle.sacn_receiver.specs.declared.answer.Ignored.TheVariants.{AltStart, OutOfSequence}
use Rattle.sacn_receiver.specs.declared.answer.Ignored.TheVariants.{SourcesFull}
use Rattle.sacn_receiver.specs.Source.{Entry, is_accepted, record_of, last_moment}

-- levels that are not for the stage (E1.31-2018, options: Preview_Data)
abbrev pub is_preview : WirePacket → Bool
is_preview p = not (bit_and p.fields.options 0x80 == 0)

-- the source's last packets (E1.31-2018, options: Stream_Terminated)
abbrev pub is_termination : WirePacket → Bool
is_termination p = not (bit_and p.fields.options 0x40 == 0)

-- the slots carry something else than levels, under an alternate START code; a termination's slots
-- do not matter
abbrev pub is_alternate : WirePacket → Bool
is_alternate p = not (p.fields.start == 0) && not (is_termination p)

-- a packet as it is accepted at moment t: the slots that it lacks are 0
abbrev pub accepted_entry : ℕ → WirePacket → Entry
accepted_entry t p = record {
  cid = p.fields.cid;
  number = p.fields.sequence;
  moment = t;
  priority = p.fields.priority;
  slots = p.slots ++ replicate (512 - length p.slots) 0;
  ended = is_termination p;
}

-- why the source rule does not accept a packet: with a record of its CID it is the number, without
-- one the room
abbrev pub source_reason : Option Entry → Ignored
source_reason None = SourcesFull
source_reason (Some e) = OutOfSequence

abbrev pub source_refusal : ℕ → List Entry → ℕ → List ℕ → ℕ → Option Ignored
source_refusal room h t cid number =
    if is_accepted room h t cid number then None else Some (source_reason (record_of h t cid))

-- what keeps a packet from being heard on a universe, reason by reason: it is of another, or is no
-- data for the stage
abbrev pub keeps_off : ℕ → WirePacket → Ignored → Bool
keeps_off universe p OtherUniverse = not (p.fields.universe == universe)
keeps_off universe p Preview = is_preview p
keeps_off universe p AltStart = is_alternate p
keeps_off universe p _ = false

-- why a packet is not heard on a universe: the first of these reasons that applies
abbrev pub off_reason : ℕ → WirePacket → Option Ignored
off_reason universe p = find (keeps_off universe p) (OtherUniverse ∷ Preview ∷ AltStart ∷ [])

-- why a packet is ignored
abbrev pub ignored_packet : ℕ → ℕ → List Entry → ℕ → WirePacket → Option Ignored
ignored_packet room universe h t p =
    option_or (off_reason universe p) (source_refusal room h t p.fields.cid p.fields.sequence)

-- why a datagram is ignored: the first reason that applies
abbrev pub ignore_reason : ℕ → ℕ → List Entry → ℕ → List ℕ → Option Ignored
ignore_reason room universe h t datagram =
    if nat_lt t (last_moment h) then Some Backwards
    else option_or (option_map Unreadable (fault_of datagram))
    (ignored_packet room universe h t (front_packet datagram))

-- what is answered to a packet that is accepted
abbrev pub taken_of : WirePacket → Taken
taken_of p = record { sequence = p.fields.sequence; terminated = is_termination p }

-- what is answered to a datagram
abbrev pub answer : ℕ → ℕ → List Entry → ℕ → List ℕ → Result Taken Ignored
answer room universe h t datagram =
    option_map_or Err (ignore_reason room universe h t datagram)
    (Ok (taken_of (front_packet datagram)))

-- the history after a datagram: only what is accepted lengthens it
abbrev pub history_after : ℕ → ℕ → List Entry → ℕ → List ℕ → List Entry
history_after room universe h t datagram =
    option_map_or (λ _. h) (ignore_reason room universe h t datagram)
    (accepted_entry t (front_packet datagram) ∷ h)
