-- Datagrams that are ignored, counted by why. A reason stands for its place among their names.
use Rattle.std.specs.Prelude.{ℕ, ◌+◌, ◌==◌, Bool, ◌&&◌, List, [], ◌∷◌, ◌++◌, min, replicate, nat_le}
use Rattle.std.specs.Prelude.{bytes_eq, length}
use Rattle.std.specs.Prelude.{flat_map, if◌then◌else◌, codes, decimal, slice_index, slice_set}
use Rattle.std.specs.Prelude.{slice_index_or}
use Rattle.std.specs.List.{enumerate_from}
use Rattle.std.specs.Option.{option_map_or}
use Rattle.sacn_packet.specs.declared.unreadable.Unreadable.{Unreadable}
use Rattle.sacn_packet.specs.declared.unreadable.Unreadable.TheVariants as packet
use Rattle.sacn_packet.specs.Faults.{fault_of}
use Rattle.sacn_packet.specs.Wire.{bytes_at, packet_identifier}
use Rattle.sacn_receiver.specs.declared.answer.Ignored.{Ignored}
use Rattle.sacn_receiver.specs.declared.answer.Ignored.TheVariants as receiver
use Rattle.cmd_listen.specs.declared.text.Head.{Head}
use Rattle.cmd_listen.specs.Sources.{line_head}

-- the names: the first sixteen are those that the receiver has for them
abbrev pub ignored_names : List (List ℕ)
ignored_names = codes "Backwards" ∷ codes "Unreadable Short" ∷ codes "Unreadable Preamble"
    ∷ codes "Unreadable Identifier" ∷ codes "Unreadable RootVector" ∷ codes "Unreadable Length"
    ∷ codes "Unreadable FramingVector" ∷ codes "Unreadable Priority"
    ∷ codes "Unreadable Universe" ∷ codes "Unreadable Dmp" ∷ codes "Unreadable Count"
    ∷ codes "OtherUniverse" ∷ codes "Preview" ∷ codes "AltStart" ∷ codes "OutOfSequence"
    ∷ codes "SourcesFull" ∷ codes "PerAddressPriority" ∷ codes "Discovery"
    ∷ codes "Synchronization" ∷ []

abbrev pub name_at : ℕ → List ℕ
name_at place = slice_index_or ignored_names place []

abbrev pub fault_place : Unreadable → ℕ
fault_place packet.Short = 1
fault_place packet.Preamble = 2
fault_place packet.Identifier = 3
fault_place packet.RootVector = 4
fault_place packet.Length = 5
fault_place packet.FramingVector = 6
fault_place packet.Priority = 7
fault_place packet.Universe = 8
fault_place packet.Dmp = 9
fault_place packet.Count = 10

abbrev pub reason_place : Ignored → ℕ
reason_place receiver.Backwards = 0
reason_place (receiver.Unreadable fault) = fault_place fault
reason_place receiver.OtherUniverse = 11
reason_place receiver.Preview = 12
reason_place receiver.AltStart = 13
reason_place receiver.OutOfSequence = 14
reason_place receiver.SourcesFull = 15

-- why a receiver ignores a datagram: the START code 0xDD is that of priorities of single slots
abbrev pub ignored_place : List ℕ → Ignored → ℕ
ignored_place datagram receiver.AltStart = if slice_index datagram 125 == 0xdd then 16 else 13
ignored_place datagram reason = reason_place reason

-- these bytes stand at the offset
abbrev pub stands_at : List ℕ → ℕ → List ℕ → Bool
stands_at datagram offset bytes = bytes_eq (bytes_at datagram offset (length bytes)) bytes

-- an extended packet with this framing vector (E1.31-2018, VECTOR_ROOT_E131_EXTENDED)
abbrev pub is_extended : List ℕ → ℕ → Bool
is_extended datagram vector =
    nat_le 44 (length datagram) && stands_at datagram 4 packet_identifier
    && stands_at datagram 18 (0 ∷ 0 ∷ 0 ∷ 8 ∷ []) && stands_at datagram 40 (0 ∷ 0 ∷ 0 ∷ vector ∷ [])

-- why no receiver is handed a datagram: it is a universe discovery packet or a synchronization
-- packet, it holds no data packet, or one of a universe that is not watched
abbrev pub stray_place : List ℕ → ℕ
stray_place datagram =
    if is_extended datagram 2 then 17
    else (if is_extended datagram 1 then 18
    else option_map_or fault_place (fault_of datagram) 11)

-- ---- counts, one for each name

abbrev pub none_counted : List ℕ
none_counted = replicate 19 0

-- one more, up to the greatest that a count can be
abbrev pub with_one_more : ℕ → List ℕ → List ℕ
with_one_more place counts = slice_set counts place (min (slice_index counts place + 1) 4294967295)

abbrev pub count_line : Head → ℕ × ℕ → List ℕ
count_line head (place, count) =
    if count == 0 then []
    else line_head head ++ codes "ignored " ++ name_at place ++ codes " " ++ decimal count
    ++ codes "\n"

-- a line for each count that is not 0
abbrev pub counts_text : Head → List ℕ → List ℕ
counts_text head counts = flat_map (count_line head) (enumerate_from 0 counts)
