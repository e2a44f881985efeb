-- What an offer or a termination answers, and what it does to a link.
use Rattle.std.specs.Prelude.{◌≡◌, ℕ, ◌%◌, Bool, List, [], ◌∷◌, ◌++◌, Option, Some, None}
use Rattle.std.specs.Prelude.{if◌then◌else◌}
use Rattle.sacn_source.specs.declared.offered.Offered.{Offered}
use Rattle.sacn_source.specs.declared.offered.Offered.TheVariants.{Sent, Lost, Quiet}
use Rattle.sacn_source.specs.Identify.{IsStreamPacket}
use Rattle.sacn_source.specs.Identity.{Identity}
use Rattle.devices.specs.Send.{Send}
use Rattle.sacn_source.specs.Stream.{Packet}

-- the answer to a packet at this place of its stream, which went out or was lost
abbrev pub answer_of : Bool → ℕ → Offered
answer_of failed place = if failed then Lost (place % 256) else Sent (place % 256)

-- the sequence number that was used, where one was
abbrev pub sequence_of : Offered → Option ℕ
sequence_of (Sent number) = Some number
sequence_of (Lost number) = Some number
sequence_of Quiet = None

-- the answer fits the packet that is due at this place: its number, or Quiet where none is due
abbrev pub Answers : ℕ → Option Packet → Offered → Type 0
Answers place None answer = answer ≡ Quiet
Answers place (Some packet) answer = (failed : Bool) × (answer ≡ answer_of failed place)

-- where a packet is due, the link was offered its bytes and nothing else, and the answer is Lost
-- where that send failed; else the link was offered nothing
abbrev pub Offers : Identity → ℕ → ℕ → Option Packet → Offered → List Send → List Send → Type 0
Offers who universe place None answer before after = (answer ≡ Quiet) × (after ≡ before)
Offers who universe place (Some packet) answer before after =
    (bytes : List ℕ) × (failed : Bool) × IsStreamPacket who universe place packet bytes
    × (answer ≡ answer_of failed place)
    × (after ≡ before ++ record { universe = universe; bytes = bytes; failed = failed } ∷ [])
