-- What is promised of a rehearsal, by its report.
use Rattle.std.specs.Prelude.{◌≡◌, ◌<◌, ◌≤◌, ◌⊎◌, ℕ, List, IsTrue, None, Some, length}
use Rattle.std.specs.Prelude.{slice_get, slice_index, take}
use Rattle.desk_core.specs.Meaning.{dark}
use Rattle.sacn_receiver.specs.Shown.{merged_slot}
use Rattle.wire_world.specs.declared.happening.Happening.{Happening}
use Rattle.wire_world.specs.declared.happening.Occurrence.TheVariants.{Deliver}
use Rattle.wire_world.specs.World.{World, IsWorld, universe_at}
use Rattle.wire_world.specs.Delivery.{deliveries}
use Rattle.wire_world.specs.Happened.{packets_sent}
use Rattle.wire_world.specs.Laws.{AreSettled, CidsDiffer, HearsAll, HearsOne, IsFresh, IsOneOf}
use Rattle.wire_world.specs.Laws.{IsUnpatched, NoStray, is_silent, lights, meant_slots}
use Rattle.wire_world.specs.Replies.{events_done, skip_of}
use Rattle.wire_world.specs.Reported.{IsReportOf, RehearsalReport}
use Rattle.wire_world.specs.Shows.{IsShown, reply_alone}

-- THE HEADLINE. Where receiver r hears console i alone, and the newest packet that the console has
-- sent for its universe first arrived less than 2,500 ms ago, the slots that are shown are what the
-- show means at the latest tick, under the commands before that tick
abbrev pub ShowsMeaning : World → List Happening → RehearsalReport → Type 0
ShowsMeaning w events report =
    (r i t : ℕ) (past : List Happening) (slots : List ℕ)
    → IsShown w events report.replies report.last r t past slots
    → HearsOne w r i past → IsFresh w r i past t → slots ≡ meant_slots w r i past

-- and a slot without a patched channel is 0
abbrev pub ShowsUnpatchedAsZero : World → List Happening → RehearsalReport → Type 0
ShowsUnpatchedAsZero w events report =
    (r i t slot : ℕ) (past : List Happening) (slots : List ℕ)
    → IsShown w events report.replies report.last r t past slots
    → HearsOne w r i past → IsFresh w r i past t
    → slot < 512 → IsUnpatched w r i slot → slice_index slots slot ≡ 0

-- THE WINDOW LAW. Where receiver r hears console i alone, the slots that are shown are those of one
-- of its newest packets, or all 0; and all 0 where none arrived less than 2,500 ms ago
abbrev pub ShowsOnePacket : World → List Happening → RehearsalReport → Type 0
ShowsOnePacket w events report =
    (r i t : ℕ) (past : List Happening) (slots : List ℕ)
    → IsShown w events report.replies report.last r t past slots → HearsOne w r i past
    → (IsOneOf t slots (packets_sent w i (universe_at w r) past) (deliveries w r i past)
    ⊎ (slots ≡ dark))
    × (IsTrue (is_silent w r i past t) → slots ≡ dark)

-- THE MERGE LAW. Where receiver r hears the consoles, and each that has sent for its universe is
-- fresh or silent, each slot that is shown is the merge of what they light
abbrev pub ShowsMerge : World → List Happening → RehearsalReport → Type 0
ShowsMerge w events report =
    (r t slot : ℕ) (past : List Happening) (slots : List ℕ)
    → IsShown w events report.replies report.last r t past slots
    → HearsAll w r past → AreSettled w r past t
    → slot < 512 → slice_index slots slot ≡ merged_slot (lights w r past t) slot

-- CONSOLES ARE INDEPENDENT. The reply to a packet of a console, where its event is not skipped, is
-- what it were if the packets of that console alone had come
abbrev pub AnswersAlone : World → List Happening → RehearsalReport → Type 0
AnswersAlone w events report =
    (place r i universe k t : ℕ) (past : List Happening)
    → (let event : Happening = record { moment = t; what = Deliver r i universe k } in
    slice_get events place ≡ Some event → past ≡ events_done w (take place events)
    → skip_of w past event ≡ None → CidsDiffer w → NoStray w r past
    → slice_get report.replies place ≡ Some (reply_alone w past t r i universe k))

-- all of it
pub record IsPromised (w : World) (events : List Happening) (report : RehearsalReport)
    : Type 0 where
  pub headline : ShowsMeaning w events report
  pub unpatched : ShowsUnpatchedAsZero w events report
  pub window_law : ShowsOnePacket w events report
  pub merge_law : ShowsMerge w events report
  pub independent : AnswersAlone w events report

-- this is what a rehearsal of at most four consoles answers: the replies to the events and the slots
-- after them, and all of the promise
pub record IsRehearsed (w : World) (events : List Happening) (report : RehearsalReport)
    : Type 0 where
  pub world : IsWorld w
  pub few : length w.consoles ≤ 4
  pub came : IsReportOf w events report
  pub promised : IsPromised w events report
