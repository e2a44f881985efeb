-- What a tick offers to the link, and what becomes of it. Lists are in the order of the universes.
use Rattle.std.specs.Prelude.{◌≡◌, ℕ, List, [], ◌∷◌, ◌++◌, Some, None}
use Rattle.sacn_source.specs.Identity.{Identity}
use Rattle.sacn_source.specs.declared.offered.Offered.{Offered}
use Rattle.sacn_source.specs.declared.offered.Offered.TheVariants.{Quiet}
use Rattle.sacn_source.specs.Identify.{IsStreamPacket}
use Rattle.sacn_source.specs.Offering.{answer_of}
use Rattle.devices.specs.Send.{Send}
use Rattle.sacn_source.specs.Stream.{Packet}
use Rattle.console.specs.Streams.{Due}

-- this send carries the packet that is due
pub record Carries (source : Identity) (due : Due) (packet : Packet) (send : Send) : Type 0 where
  pub packet_is : due.packet ≡ Some packet
  pub universe_is : send.universe ≡ due.universe
  pub bytes_are : IsStreamPacket source due.universe due.place packet send.bytes

-- the link is offered the packets that are due, and nothing else; an offer is answered Quiet where
-- no packet is due, and else with the packet's number, Lost where its send failed and Sent where
-- it did not
pub data AreOffered (source : Identity) : List Due → List Send → List (ℕ × Offered) → Type 0 where
  none : AreOffered source [] [] []
  quiet : (due : Due) (dues : List Due) (sends : List Send) (pairs : List (ℕ × Offered))
      → due.packet ≡ None → AreOffered source dues sends pairs
      → AreOffered source (due ∷ dues) sends ((due.universe, Quiet) ∷ pairs)
  sent : (due : Due) (packet : Packet) (send : Send) (dues : List Due) (sends : List Send)
      (pairs : List (ℕ × Offered))
      → Carries source due packet send → AreOffered source dues sends pairs
      → AreOffered source (due ∷ dues) (send ∷ sends)
      ((due.universe, answer_of send.failed due.place) ∷ pairs)

-- a link was offered what is due, and these are the answers
pub record OffersDues (source : Identity) (dues : List Due) (pairs : List (ℕ × Offered))
    (before after : List Send) : Type 0 where
  pub sends : List Send
  pub are_offered : AreOffered source dues sends pairs
  pub after_is : after ≡ before ++ sends
