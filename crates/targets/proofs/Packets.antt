-- The packets that a sender is offered, and their datagrams.
use Rattle.std.proofs.Common.{◌≡◌, ◌∙◌, ◌<◌, ◌+◌, ℕ, Bool, true, false, List, [], ◌∷◌, ◌++◌, ap}
use Rattle.std.proofs.Common.{append_assoc, get_or, length, map, refl, subst, sym, take}
use Rattle.std.proofs.lemmas.List.{append-nil, map-append, take_more}
use Rattle.std.proofs.lemmas.List.Elements.{All-append, All-cons, All-head, All-nil, All-tail}
use Rattle.std.proofs.lemmas.List.Folds.{list_any-append}
use Rattle.std.proofs.lemmas.List.Sums.{fold-append}
use Rattle.std.specs.Prelude.{◌||◌, All, flat_map, fold}
use Rattle.targets.specs.Addressed.{AddressedLaw, addressed_packet, addressed_send}
use Rattle.targets.specs.Addressed.{at_address}
use Rattle.targets.specs.Choice.{addresses_of}
use Rattle.targets.specs.Datagram.{Datagram, IsSentTo, IsToAll, Packet, has_failed}
use Rattle.targets.specs.Datagram.{send_of, with_datagram, with_datagrams}
use Rattle.targets.specs.Kept.{packets_of, with_offer}
use Rattle.targets.specs.declared.address.Address.{Address}
use Rattle.targets.specs.declared.memory.MemoryOffer.{MemoryOffer}
use Rattle.targets.specs.declared.target.Target.{Target}

pub one_more : (offers : List MemoryOffer) (offer : MemoryOffer)
    → packets_of (offers ++ offer ∷ []) ≡ with_offer (packets_of offers) offer
one_more offers offer = fold-append with_offer [] offers (offer ∷ [])

pub datagram_more : (packets : List Packet) (sent : List Datagram) (datagram : Datagram)
    → with_datagrams packets (sent ++ datagram ∷ [])
    ≡ with_datagram (with_datagrams packets sent) datagram
datagram_more packets sent datagram = fold-append with_datagram packets sent (datagram ∷ [])

pub or_true : (b : Bool) → (b || true) ≡ true
or_true true = refl
or_true false = refl

pub or_false : (b : Bool) → (b || false) ≡ b
or_false true = refl
or_false false = refl

-- a packet with these datagrams behind its own
abbrev with_more : Packet → List Datagram → Packet
with_more packet sent = record packet { datagrams = packet.datagrams ++ sent }

-- a datagram is of the last packet
behind : (before : List Packet) (packet : Packet) (datagram : Datagram)
    → with_datagram (before ++ packet ∷ []) datagram
    ≡ before ++ with_more packet (datagram ∷ []) ∷ []
behind [] packet datagram = refl
behind (first ∷ []) packet datagram = refl
behind (first ∷ second ∷ rest) packet datagram =
    ap (λ packets. first ∷ packets) (behind (second ∷ rest) packet datagram)

behind_each : (before : List Packet) (packet : Packet) (sent : List Datagram)
    → with_datagrams (before ++ packet ∷ []) sent ≡ before ++ with_more packet sent ∷ []
behind_each before packet [] =
    ap (λ own. before ++ record packet { datagrams = own } ∷ []) (sym (append-nil packet.datagrams))
behind_each before packet (datagram ∷ sent) =
    ap (λ packets. fold with_datagram packets sent) (behind before packet datagram)
    ∙ behind_each before (with_more packet (datagram ∷ [])) sent
    ∙ ap (λ own. before ++ record packet { datagrams = own } ∷ [])
    (append_assoc packet.datagrams (datagram ∷ []) sent)

-- of a packet that has just begun they are all
pub of_packet : (before : List Packet) (universe : ℕ) (bytes : List ℕ) (sent : List Datagram)
    → with_datagrams
    (before ++ record { universe = universe; bytes = bytes; datagrams = [] } ∷ []) sent
    ≡ before ++ record { universe = universe; bytes = bytes; datagrams = sent } ∷ []
of_packet before universe bytes sent =
    behind_each before (record { universe = universe; bytes = bytes; datagrams = [] }) sent

-- ---- addresses

abbrev rest : {X : Type 0} → List X → List X
rest [] = []
rest (x ∷ xs) = xs

abbrev first : {X : Type 0} → X → List X → X
first x [] = x
first x (y ∷ ys) = y

-- datagrams of the same bytes are these bytes at each of their addresses
same_bytes : (universe : ℕ) (bytes : List ℕ) (sent : List Datagram)
    → map (λ datagram. datagram.bytes) sent
    ≡ map (λ _. bytes) (map (λ datagram. datagram.to) sent)
    → map (λ datagram. at_address universe datagram.bytes datagram.to) sent
    ≡ map (at_address universe bytes) (map (λ datagram. datagram.to) sent)
same_bytes universe bytes [] same = refl
same_bytes universe bytes (datagram ∷ sent) same =
    ap (λ own. at_address universe own datagram.to
    ∷ map (λ datagram. at_address universe datagram.bytes datagram.to) sent) (ap (first []) same)
    ∙ ap (λ others. at_address universe bytes datagram.to ∷ others)
    (same_bytes universe bytes sent (ap rest same))

of_addresses : (universe : ℕ) (bytes : List ℕ) (sent : List Datagram) (addresses : List Address)
    → IsSentTo addresses bytes sent
    → map (λ datagram. at_address universe datagram.bytes datagram.to) sent
    ≡ map (at_address universe bytes) addresses
of_addresses universe bytes sent addresses is =
    same_bytes universe bytes sent
    (is.whole ∙ ap (λ to. map (λ _. bytes) to) (sym is.in_order))
    ∙ ap (map (at_address universe bytes)) is.in_order

addressed_each : (targets : List Target) (packets : List Packet) → All (IsToAll targets) packets
    → flat_map addressed_packet packets
    ≡ flat_map (addressed_send targets) (map send_of packets)
addressed_each targets [] all = refl
addressed_each targets (packet ∷ packets) all =
    ap (λ own. own ++ flat_map addressed_packet packets)
    (of_addresses packet.universe packet.bytes packet.datagrams
    (addresses_of packet.universe targets) (All-head (IsToAll targets) packet packets all))
    ∙ ap (λ others. addressed_send targets (send_of packet) ++ others)
    (addressed_each targets packets (All-tail (IsToAll targets) packet packets all))

pub addressed_all : AddressedLaw
addressed_all = addressed_each

-- ---- a datagram more

-- to the next address
pub sent_more : (addresses : List Address) (bytes : List ℕ) (i : ℕ) (d : Address)
    (sent : List Datagram) (failed : Bool) → i < length addresses
    → IsSentTo (take i addresses) bytes sent
    → IsSentTo (take (i + 1) addresses) bytes
    (sent ++ record { to = get_or addresses i d; bytes = bytes; failed = failed } ∷ [])
sent_more addresses bytes i d sent failed inside is =
    let datagram : Datagram =
    record { to = get_or addresses i d; bytes = bytes; failed = failed } in
    let more = take_more addresses i d inside in record {
      in_order = map-append (λ datagram. datagram.to) sent (datagram ∷ [])
          ∙ ap (λ to. to ++ get_or addresses i d ∷ []) is.in_order ∙ sym more;
      whole = map-append (λ datagram. datagram.bytes) sent (datagram ∷ [])
          ∙ ap (λ own. own ++ bytes ∷ []) is.whole
          ∙ sym (map-append (λ _. bytes) (take i addresses) (get_or addresses i d ∷ []))
          ∙ ap (map (λ _. bytes)) (sym more);
    }

-- a failed one is a failure, and one that passes changes nothing
pub failed_more : (sent : List Datagram) (datagram : Datagram)
    → has_failed (sent ++ datagram ∷ []) ≡ (has_failed sent || datagram.failed)
failed_more sent datagram =
    list_any-append (λ datagram. datagram.failed) sent (datagram ∷ [])
    ∙ ap (λ b. has_failed sent || b) (or_false datagram.failed)

pub step : (start packets after : List Packet) (addresses : List Address) (bytes : List ℕ) (i : ℕ)
    (d : Address) (sent : List Datagram) (before now failed : Bool) → i < length addresses
    → IsSentTo (take i addresses) bytes sent → before ≡ has_failed sent
    → packets ≡ with_datagrams start sent
    → after ≡ with_datagram packets
    (record { to = get_or addresses i d; bytes = bytes; failed = failed })
    → now ≡ (before || failed)
    → (sent : List Datagram) × IsSentTo (take (i + 1) addresses) bytes sent
    × (now ≡ has_failed sent) × (after ≡ with_datagrams start sent)
step start packets after addresses bytes i d sent before now failed inside is answered offered more
    fails =
    let datagram : Datagram =
    record { to = get_or addresses i d; bytes = bytes; failed = failed } in (
      sent ++ datagram ∷ [],
      sent_more addresses bytes i d sent failed inside is,
      fails ∙ ap (λ b. b || failed) answered ∙ sym (failed_more sent datagram),
      more ∙ ap (λ packets. with_datagram packets datagram) offered
          ∙ sym (datagram_more start sent datagram),
    )

-- ---- a packet more

pub all_more : (targets : List Target) (packets after : List Packet) (packet : Packet)
    → All (IsToAll targets) packets → IsToAll targets packet → after ≡ packets ++ packet ∷ []
    → All (IsToAll targets) after
all_more targets packets after packet all is more =
    subst (All (IsToAll targets)) (sym more)
    (All-append (IsToAll targets) packets (packet ∷ []) all
    (All-cons (IsToAll targets) packet [] is (All-nil (IsToAll targets))))
