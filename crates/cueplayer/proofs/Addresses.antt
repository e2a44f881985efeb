-- Where the datagrams of a play go, over a link to targets.
use Rattle.cueplayer.proofs.Terms.{◌≡◌, ◌<◌, ℕ, suc, zero, refl, ap, sym, ◌∙◌, arith, List, [], ◌∷◌}
use Rattle.cueplayer.proofs.Terms.{map, length, get_or, subst, nat_eq, eqb-true, by_test, All}
use Rattle.cueplayer.proofs.Terms.{append_cancel_left, append_cancel_right, answers_since}
use Rattle.cueplayer.proofs.Terms.{lines_given, Play, IsPlay, sent_to, play_on, Send}
use Rattle.std.proofs.lemmas.List.Elements.{All-head, All-tail}
use Rattle.targets.proofs.Packets.{addressed_all}
use Rattle.targets.specs.Addressed.{addressed}
use Rattle.targets.specs.Choice.{addresses_of}
use Rattle.targets.specs.Datagram.{IsToAll, Packet, send_of}
use Rattle.targets.specs.declared.target.Target.{Target}
use Rattle.cueplayer.specs.Addresses.{AddressesGetTheStream, NightsAreAddressed}
use Rattle.cueplayer.specs.Addresses.{PlaysAreAddressed, bytes_at}
use Rattle.cueplayer.proofs.Nights.{nights_plays}
use Rattle.cueplayer.proofs.Playing.{plays_plays}
use Rattle.cueplayer.proofs.Sends.{sends_stream}

same_at_each : {A : Type 0} (bytes : List ℕ) (xs : List A) (i : ℕ) → i < length xs
    → get_or (map (λ _. bytes) xs) i [] ≡ bytes
same_at_each bytes [] i inside = absurd (omega (arith, inside))
same_at_each bytes (x ∷ xs) zero inside = refl
same_at_each bytes (x ∷ xs) (suc i) inside = same_at_each bytes xs i (omega (arith, inside))

module _ (targets : List Target) (universe place : ℕ) where
  own_bytes : (packet : Packet) → IsToAll targets packet
      → place < length (addresses_of packet.universe targets)
      → get_or (map (λ datagram. datagram.bytes) packet.datagrams) place [] ≡ packet.bytes
  own_bytes packet is inside = ap (λ bytes. get_or bytes place []) is.whole
      ∙ same_at_each packet.bytes (addresses_of packet.universe targets) place inside

  streams : (packets : List Packet) → All (IsToAll targets) packets
      → place < length (addresses_of universe targets)
      → bytes_at universe place packets ≡ sent_to universe (map send_of packets)
  streams [] all inside = refl
  streams (packet ∷ packets) all inside =
      let is = All-head (IsToAll targets) packet packets all in
      let more = streams packets (All-tail (IsToAll targets) packet packets all) inside in
      by_test (nat_eq packet.universe universe)
      (λ q. rw q (ap (λ own. own ∷ bytes_at universe place packets)
      (own_bytes packet is (subst (λ u. place < length (addresses_of u targets))
      (sym (eqb-true packet.universe universe q)) inside))
      ∙ ap (λ others. packet.bytes ∷ others) more))
      (λ q. rw q more)

pub addresses_get : AddressesGetTheStream
addresses_get play targets packets is out = record {
  datagrams_are = addressed_all targets packets out.to_all ∙ ap (addressed targets) out.sends_are;
  streams = λ universe place inside.
      streams targets universe place packets out.to_all inside
      ∙ ap (sent_to universe) out.sends_are ∙ sends_stream play universe is;
}

pub plays_addressed : (ended : Type 0) → PlaysAreAddressed ended
plays_addressed ended p result fed feeds before after is targets packets all after_is =
    let played = plays_plays ended p result fed feeds before after is in
    let same : played.1.offered ≡ map send_of packets =
    append_cancel_left before.offered played.1.offered (map send_of packets)
    (sym played.1.after_is ∙ after_is) in
    let play : Play =
    record { production = p; lines = played.0; offered = map send_of packets } in
    let is_play : IsPlay play =
    subst (λ (offered : List Send).
    IsPlay (record { production = p; lines = played.0; offered = offered })) same
    played.1.is_play in
    let reached = addresses_get play targets packets is_play
    (record { to_all = all; sends_are = refl }) in (played.0, (is_play, reached))

pub nights_addressed : NightsAreAddressed
nights_addressed play first passed result before after is_play lines_are is happened offered
    happened_is offered_is targets packets out =
    let night = nights_plays play first passed result before after is_play lines_are is in
    let same : night.happened ≡ happened = append_cancel_right night.happened happened
    before.booth.happened (sym night.happened_is ∙ happened_is) in
    let sends : night.offered ≡ offered = append_cancel_left before.offered
    night.offered offered (sym night.after_is ∙ offered_is) in
    let all : Play = play_on play (lines_given (answers_since first happened)) offered in
    let plays : IsPlay all = rw (← same, ← sends) night.is_play in
    addresses_get all targets packets plays out
