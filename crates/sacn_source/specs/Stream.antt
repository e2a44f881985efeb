-- What the source of one universe sends (E1.31-2018: sequence numbering, transmission rate and
-- termination, with this product's three repeats). Lists of offers have the newest first.
use Rattle.std.specs.Prelude.{ℕ, suc, zero, ◌+◌, Bool, true, false, not, ◌||◌, nat_le, nat_eq}
use Rattle.std.specs.Prelude.{List, [], ◌∷◌, ◌++◌, map, replicate, if◌then◌else◌, Option, Some}
use Rattle.std.specs.Prelude.{None}
use Rattle.std.specs.Cmp.Lexicographic.{pointwise}

-- a frame that was offered, and when, in milliseconds
pub record Offer : Type 0 where
  pub moment : ℕ
  pub frame : List ℕ

-- the newest offer is a change: the first, or another frame than the one before
abbrev pub is_change : List Offer → Bool
is_change [] = false
is_change (o ∷ []) = true
is_change (o ∷ p ∷ older) = not (pointwise nat_eq o.frame p.frame)

-- one of the newest n offers is a change
abbrev pub changed_within : ℕ → List Offer → Bool
changed_within zero os = false
changed_within (suc n) [] = false
changed_within (suc n) (o ∷ older) = is_change (o ∷ older) || changed_within n older

-- the moment of the newest offer that sent; 0 where none did
abbrev pub last_sent : List Offer → ℕ
last_sent [] = 0
last_sent (o ∷ older) =
    if changed_within 4 (o ∷ older) || nat_le (last_sent older + 800) o.moment
    then o.moment else last_sent older

-- the newest offer sends: one of the last four is a change, or the last that sent is 800 ms ago
abbrev pub sends : List Offer → Bool
sends [] = false
sends (o ∷ older) = changed_within 4 (o ∷ older) || nat_le (last_sent older + 800) o.moment

-- the frames of the packets, in order
abbrev pub frames_sent : List Offer → List (List ℕ)
frames_sent [] = []
frames_sent (o ∷ older) =
    if sends (o ∷ older) then frames_sent older ++ o.frame ∷ [] else frames_sent older

-- a packet without its addresses: whether it ends the stream, and its slots
pub record Packet : Type 0 where
  pub ends : Bool
  pub slots : List ℕ

-- the packet of a frame
abbrev pub live_packet : List ℕ → Packet
live_packet frame = record { ends = false; slots = frame }

-- the end of a stream: Stream_Terminated, and every slot at 0
abbrev pub last_packet : Packet
last_packet = record { ends = true; slots = replicate 512 0 }

-- the packets of a stream with these offers and then n terminations, in order: packet k at place k
abbrev pub packets : List Offer → ℕ → List Packet
packets offers zero = map live_packet (frames_sent offers)
packets offers (suc n) = packets offers n ++ last_packet ∷ []

-- the packet that the newest offer sends, where it sends one
abbrev pub due_packet : List Offer → Option Packet
due_packet [] = None
due_packet (o ∷ older) = if sends (o ∷ older) then Some (live_packet o.frame) else None

-- the frame of the newest offer; zeros before the first
abbrev pub newest_frame : List Offer → List ℕ
newest_frame [] = replicate 512 0
newest_frame (o ∷ older) = o.frame

-- the earliest moment of the next offer: after the newest one
abbrev pub earliest_after : List Offer → ℕ
earliest_after [] = 0
earliest_after (o ∷ older) = o.moment + 1
