-- What a rehearsal shows of its receivers, of which the laws speak: its Shown replies, and the
-- slots after all events.
use Rattle.std.specs.Prelude.{◌≡◌, ℕ, ◌⊎◌, List, [], take, Some, slice_get, unwrap_or}
use Rattle.sacn_receiver.specs.Taking.{answer}
use Rattle.wire_world.specs.declared.happening.Happening.{Happening}
use Rattle.wire_world.specs.declared.happening.Occurrence.TheVariants.{Show}
use Rattle.wire_world.specs.declared.reply.Reply.{Reply}
use Rattle.wire_world.specs.declared.reply.Reply.TheVariants.{Shown}
use Rattle.wire_world.specs.World.{World, universe_at}
use Rattle.wire_world.specs.Happened.{datagram}
use Rattle.wire_world.specs.Replies.{last_event_moment, events_done, taken_reply}
use Rattle.wire_world.specs.Laws.{accepted_from}

-- an event asks at moment t for the slots of receiver r, these are the reply, and `past` is what
-- was done before it
pub record IsReplied (w : World) (events : List Happening) (replies : List Reply) (r t : ℕ)
    (past : List Happening) (slots : List ℕ) : Type 0 where
  pub place : ℕ
  pub asked : slice_get events place ≡ Some (record { moment = t; what = Show r })
  pub answered : slice_get replies place ≡ Some (Shown slots)
  pub before : past ≡ events_done w (take place events)

-- receiver r is left with these slots after all events, `past` is what was done of them, and t the
-- moment of the last
pub record IsLeft (w : World) (events : List Happening) (last : List (List ℕ)) (r t : ℕ)
    (past : List Happening) (slots : List ℕ) : Type 0 where
  pub left : slice_get last r ≡ Some slots
  pub all : past ≡ events_done w events
  pub at_last : t ≡ last_event_moment past

-- a rehearsal with these replies and these last slots shows, of receiver r, these slots at moment
-- t after the events `past`
abbrev pub IsShown : World → List Happening → List Reply → List (List ℕ) → ℕ → ℕ → List Happening
    → List ℕ → Type 0
IsShown w events replies last r t past slots =
    IsReplied w events replies r t past slots ⊎ IsLeft w events last r t past slots

-- the reply of receiver r to packet k of a universe of console i, if the packets of that console
-- alone had come to it
abbrev pub reply_alone : World → List Happening → ℕ → ℕ → ℕ → ℕ → ℕ → Reply
reply_alone w past t r i universe k =
    taken_reply (answer 4 (universe_at w r) (accepted_from w r i past) t
    (unwrap_or (datagram w i universe k past) []))
