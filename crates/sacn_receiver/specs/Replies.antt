-- What is printed of a receiver: its replies to datagrams, and its slots.
use Rattle.std.specs.Prelude.{ℕ, ◌==◌, List, [], ◌++◌, if◌then◌else◌, Result, Ok, Err, codes}
use Rattle.std.specs.Prelude.{decimal, flat_map}
use Rattle.std.specs.List.{enumerate_from}
use Rattle.sacn_packet.specs.declared.unreadable.Unreadable.{Unreadable}
use Rattle.sacn_packet.specs.declared.unreadable.Unreadable.TheVariants as packet
use Rattle.sacn_receiver.specs.declared.answer.Taken.{Taken}
use Rattle.sacn_receiver.specs.declared.answer.Ignored.{Ignored}
use Rattle.sacn_receiver.specs.declared.answer.Ignored.TheVariants as receiver

-- what is wrong with a datagram that holds no data packet, by its name
abbrev pub unreadable_name : Unreadable → List ℕ
unreadable_name packet.Short = codes "Short"
unreadable_name packet.Preamble = codes "Preamble"
unreadable_name packet.Identifier = codes "Identifier"
unreadable_name packet.RootVector = codes "RootVector"
unreadable_name packet.Length = codes "Length"
unreadable_name packet.FramingVector = codes "FramingVector"
unreadable_name packet.Priority = codes "Priority"
unreadable_name packet.Universe = codes "Universe"
unreadable_name packet.Dmp = codes "Dmp"
unreadable_name packet.Count = codes "Count"

-- why a datagram is ignored, by its name
abbrev pub ignored_name : Ignored → List ℕ
ignored_name receiver.Backwards = codes "Backwards"
ignored_name (receiver.Unreadable fault) = codes "Unreadable " ++ unreadable_name fault
ignored_name receiver.OtherUniverse = codes "OtherUniverse"
ignored_name receiver.Preview = codes "Preview"
ignored_name receiver.AltStart = codes "AltStart"
ignored_name receiver.OutOfSequence = codes "OutOfSequence"
ignored_name receiver.SourcesFull = codes "SourcesFull"

-- the reply to a datagram: the number of the packet that was taken, or why the datagram is ignored
abbrev pub receiver_reply : Result Taken Ignored → List ℕ
receiver_reply (Ok taken) =
    codes "taken " ++ decimal taken.sequence ++
    (if taken.terminated then codes " terminated" else [])
receiver_reply (Err reason) = codes "ignored " ++ ignored_name reason

-- a slot, by its number and its value: nothing where the value is 0
abbrev pub slot_text : ℕ × ℕ → List ℕ
slot_text (number, value) =
    if value == 0 then [] else codes " " ++ decimal number ++ codes ":" ++ decimal value

-- the slots that are not 0, numbered from 1
abbrev pub lit_slots_text : List ℕ → List ℕ
lit_slots_text slots = codes "slots" ++ flat_map slot_text (enumerate_from 1 slots)

-- a slots line
abbrev pub slots_line : List ℕ → List ℕ
slots_line slots = lit_slots_text slots ++ codes "\n"

-- the slots of a receiver, counted from 0, at the end of a run
abbrev pub end_line : ℕ → List ℕ → List ℕ
end_line receiver slots = codes "end " ++ decimal receiver ++ codes " " ++ slots_line slots
