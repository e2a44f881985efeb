-- Laws over the definitions alone.
use Rattle.std.specs.Prelude.{◌≡◌, ◌↔◌, ℕ, ◌≤◌, false, List, [], ◌∷◌, length, if◌then◌else◌, filter}
use Rattle.std.specs.Prelude.{find, Some, All, Contains}
use Rattle.sacn_receiver.specs.Source.{Entry, same_cid, record_of, is_accepted}
use Rattle.sacn_receiver.specs.Shown.{Light, live, merged_slot}
use Rattle.sacn_receiver.specs.Taking.{answer}
use Rattle.sacn_receiver.specs.Places.{AreApart}
use Rattle.sacn_receiver.specs.Arrivals.{Arrival, heard_all, NeverFall, cid_of, is_from}
use Rattle.sacn_receiver.specs.Arrivals.{HeardAreFrom, packets_heard}

-- these packets without those that the source rule does not accept, the newest first. Where their
-- moments never fall, this is the history of a receiver to which they come (`HeardAreAccepted`).
-- Where they fall it need not be: a receiver ignores a packet from before its last moment, and the
-- source rule alone does not
abbrev pub accepted_packets : ℕ → List Entry → List Entry
accepted_packets room [] = []
accepted_packets room (e ∷ older) =
    if is_accepted room (accepted_packets room older) e.moment e.cid e.number
    then e ∷ accepted_packets room older
    else accepted_packets room older

-- where the moments never fall, the history of a receiver is what the source rule alone accepts of
-- the packets that are heard
abbrev pub HeardAreAccepted : Type 0
HeardAreAccepted =
    (room universe : ℕ) (arrivals : List Arrival) → NeverFall arrivals
    → heard_all room universe arrivals ≡ accepted_packets room (packets_heard universe arrivals)

-- sources are independent: where all packets come from no more sources than there is room for, the
-- newest accepted packet of a source is the one that it would be if the packets of that source
-- alone had come. What holds of a receiver to which datagrams come is `RecordsAreIndependent`
abbrev pub SourcesAreIndependent : Type 0
SourcesAreIndependent =
    (room : ℕ) (cids : List (List ℕ)) (packets : List Entry)
    → length cids ≤ room → All (λ e. Contains cids e.cid) packets
    → (cid : List ℕ)
    → find (same_cid cid) (accepted_packets room packets)
    ≡ find (same_cid cid) (accepted_packets room (filter (same_cid cid) packets))

-- the same of a receiver's own history, over datagrams: where their moments never fall, and those
-- that are heard come from no more sources than there is room for, the newest accepted packet of a
-- source is the one that it would be if the datagrams of that source alone had come
abbrev pub RecordsAreIndependent : Type 0
RecordsAreIndependent =
    (room universe : ℕ) (cids : List (List ℕ)) (arrivals : List Arrival)
    → length cids ≤ room → HeardAreFrom cids universe arrivals → NeverFall arrivals
    → (cid : List ℕ)
    → find (same_cid cid) (heard_all room universe arrivals)
    ≡ find (same_cid cid) (heard_all room universe (filter (is_from cid) arrivals))

-- and of the answers: a datagram is answered as if the datagrams of its source alone had come
-- before it
abbrev pub AnswersAreIndependent : Type 0
AnswersAreIndependent =
    (room universe : ℕ) (cids : List (List ℕ)) (a : Arrival) (older : List Arrival)
    → length cids ≤ room → HeardAreFrom cids universe (a ∷ older) → NeverFall (a ∷ older)
    → answer room universe (heard_all room universe older) a.moment a.datagram
    ≡ (let own = filter (is_from (cid_of a)) older in
    answer room universe (heard_all room universe own) a.moment a.datagram)

-- a live record is the record of its CID that is there, and no termination
abbrev pub LiveAreRecords : Type 0
LiveAreRecords =
    (h : List Entry) (t : ℕ) (e : Entry)
    → Contains (live h t) e ↔ ((record_of h t e.cid ≡ Some e) × (e.ended ≡ false))

-- each source has one live record at most
abbrev pub LiveAreApart : Type 0
LiveAreApart = (h : List Entry) (t : ℕ) → AreApart (live h t)

-- the merge is by membership: neither order nor repeats matter
abbrev pub MergeIsByMembership : Type 0
MergeIsByMembership =
    (lights others : List Light) → ((l : Light) → Contains lights l ↔ Contains others l)
    → (s : ℕ) → merged_slot lights s ≡ merged_slot others s
