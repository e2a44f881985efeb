-- Why a datagram holds no data packet: ten faults, of which the first that applies is answered.
use Rattle.std.specs.Prelude.{ℕ, ◌+◌, ◌==◌, nat_lt, slice_index, Bool, not, ◌||◌, List, [], ◌∷◌}
use Rattle.std.specs.Prelude.{length, find, Option}
use Rattle.std.specs.Str.{bytes_eq}
use Rattle.byteorder.specs.Endian.{big_bytes}
use Rattle.sacn_packet.specs.declared.unreadable.Unreadable.{Unreadable}
use Rattle.sacn_packet.specs.declared.unreadable.Unreadable.TheVariants.{Short, Preamble}
use Rattle.sacn_packet.specs.declared.unreadable.Unreadable.TheVariants.{Identifier, RootVector}
use Rattle.sacn_packet.specs.declared.unreadable.Unreadable.TheVariants.{Length, FramingVector}
use Rattle.sacn_packet.specs.declared.unreadable.Unreadable.TheVariants.{Priority, Universe, Dmp}
use Rattle.sacn_packet.specs.declared.unreadable.Unreadable.TheVariants.{Count}
use Rattle.sacn_packet.specs.Wire.{bytes_at, packet_identifier}
use Rattle.sacn_packet.specs.Reading.{number_at, flags_at, length_at}

-- other bytes than these stand at the offset
abbrev pub differs_at : List ℕ → ℕ → List ℕ → Bool
differs_at datagram offset bytes = not (bytes_eq (bytes_at datagram offset (length bytes)) bytes)

-- one of the three PDUs has other flags than 7, the root PDU is too short for a packet or longer
-- than the datagram, or the lengths of the two PDUs in it do not fit its own
abbrev pub lengths_disagree : List ℕ → Bool
lengths_disagree datagram =
    not (flags_at datagram 16 == 7) || not (flags_at datagram 38 == 7)
    || not (flags_at datagram 115 == 7)
    || nat_lt (length_at datagram 16) 110 || nat_lt (length datagram) (16 + length_at datagram 16)
    || not (length_at datagram 38 + 22 == length_at datagram 16)
    || not (length_at datagram 115 + 99 == length_at datagram 16)

-- the count is not 1 to 513, or not the DMP length minus 10
abbrev pub count_disagrees : List ℕ → Bool
count_disagrees datagram =
    number_at datagram 123 == 0 || nat_lt 513 (number_at datagram 123)
    || not (number_at datagram 123 + 10 == length_at datagram 115)

-- what is wrong with a datagram, fault by fault
abbrev pub applies : List ℕ → Unreadable → Bool
applies datagram Short = nat_lt (length datagram) 126
applies datagram Preamble = differs_at datagram 0 (big_bytes 4 0x00100000)
applies datagram Identifier = differs_at datagram 4 packet_identifier
applies datagram RootVector = differs_at datagram 18 (big_bytes 4 0x00000004)
applies datagram Length = lengths_disagree datagram
applies datagram FramingVector = differs_at datagram 40 (big_bytes 4 0x00000002)
applies datagram Priority = nat_lt 200 (slice_index datagram 108)
applies datagram Universe = number_at datagram 113 == 0 || nat_lt 63999 (number_at datagram 113)
applies datagram Dmp = differs_at datagram 117 (0x02 ∷ 0xa1 ∷ 0 ∷ 0 ∷ 0 ∷ 1 ∷ [])
applies datagram Count = count_disagrees datagram

-- the faults in their order
abbrev pub all_faults : List Unreadable
all_faults =
    Short ∷ Preamble ∷ Identifier ∷ RootVector ∷ Length ∷ FramingVector ∷ Priority ∷ Universe ∷ Dmp
    ∷ Count ∷ []

-- the first that applies
abbrev pub fault_of : List ℕ → Option Unreadable
fault_of datagram = find (applies datagram) all_faults
