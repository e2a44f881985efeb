-- What a network brought to a receiver of one universe: sends in any order, any number of times, or
-- never. Lists have the newest first.
use Rattle.std.specs.Prelude.{◌≡◌, ℕ, suc, ◌+◌, ◌<◌, ◌≤◌, ◌==◌, Bool, List, [], ◌∷◌, length, map}
use Rattle.std.specs.Prelude.{Option, Some, None, IsTrue, is_some, max, nat_le, nat_lt}
use Rattle.std.specs.Prelude.{if◌then◌else◌}
use Rattle.std.specs.List.{list_all}
use Rattle.sacn_receiver.specs.Arrivals.{Arrival, last_arrival, NeverFall, not_heard}
use Rattle.sacn_receiver.specs.Arrivals.{heard_all}
use Rattle.sacn_receiver.specs.Shown.{shown_slots}

-- ---- what arrived

-- an arrival, and which send for the universe it is; no origin says that it is none
pub record TracedArrival (Origin : Type 0) : Type 0 where
  pub arrival : Arrival
  pub origin : Option Origin

-- all that arrived
abbrev pub Traffic : Type 0 → Type 0
Traffic Origin = List (TracedArrival Origin)

abbrev pub arrivals_in : {Origin : Type 0} → Traffic Origin → List Arrival
arrivals_in traffic = map (λ traced. traced.arrival) traffic

abbrev pub datagrams_in : {Origin : Type 0} → Traffic Origin → List (List ℕ)
datagrams_in traffic = map (λ arrival. arrival.datagram) (arrivals_in traffic)

-- a datagram is the send that its origin names; without an origin it is not heard on the universe
abbrev pub IsOrigin : {Origin : Type 0} → (Origin → List ℕ → Type 0) → ℕ → List ℕ → Option Origin
    → Type 0
IsOrigin IsSend universe datagram None = IsTrue (is_some (not_heard universe datagram))
IsOrigin IsSend universe datagram (Some origin) = IsSend origin datagram

-- so is each that arrived. This is all that is asked of who sends and of the network
abbrev pub AreOrigins : {Origin : Type 0} → (Origin → List ℕ → Type 0) → ℕ → Traffic Origin
    → Type 0
AreOrigins IsSend universe [] = Unit {0}
AreOrigins IsSend universe (traced ∷ older) =
    IsOrigin IsSend universe traced.arrival.datagram traced.origin
    × AreOrigins IsSend universe older

-- moments never fall, and none is after moment t
abbrev pub AreInOrder : {Origin : Type 0} → ℕ → Traffic Origin → Type 0
AreInOrder t traffic = NeverFall (arrivals_in traffic) × (last_arrival (arrivals_in traffic) ≤ t)

-- the slots at moment t of a receiver of the universe, with room for four sources, after this
-- traffic
abbrev pub slots_at : {Origin : Type 0} → ℕ → Traffic Origin → ℕ → List ℕ
slots_at universe traffic t = shown_slots (heard_all 4 universe (arrivals_in traffic)) t

-- ---- the sends of one play in it

-- send k arrived at a moment
pub record Receipt : Type 0 where
  pub k : ℕ
  pub moment : ℕ

abbrev pub with_receipt : ℕ → Option ℕ → List Receipt → List Receipt
with_receipt moment None older = older
with_receipt moment (Some k) older = record { k = k; moment = moment } ∷ older

abbrev pub receipts : Traffic ℕ → List Receipt
receipts [] = []
receipts (traced ∷ older) = with_receipt traced.arrival.moment traced.origin (receipts older)

-- the newest send that arrived: the greatest k
abbrev pub newest_of : List Receipt → ℕ
newest_of [] = 0
newest_of (receipt ∷ older) = max receipt.k (newest_of older)

-- THE WINDOW of losses, repeats and reorderings (E1.31-2018, sequence numbering): each send that
-- arrived but the first is at most 19 behind and 217 ahead of the newest that arrived before it
abbrev pub IsInWindow : List Receipt → Type 0
IsInWindow [] = Unit {0}
IsInWindow (receipt ∷ []) = Unit {0}
IsInWindow (receipt ∷ second ∷ older) =
    (newest_of (second ∷ older) ≤ receipt.k + 19) × (receipt.k ≤ newest_of (second ∷ older) + 217)
    × IsInWindow (second ∷ older)

-- the moment at which the newest send that arrived did so first
abbrev pub arrival_of_newest : List Receipt → ℕ
arrival_of_newest [] = 0
arrival_of_newest (receipt ∷ []) = receipt.moment
arrival_of_newest (receipt ∷ second ∷ older) =
    if nat_lt (newest_of (second ∷ older)) receipt.k then receipt.moment
    else arrival_of_newest (second ∷ older)

-- the newest of these sends has arrived, and first did so less than 2,500 ms before moment t
-- (E1.31-2018, network data loss)
abbrev pub IsFresh : ℕ → List (List ℕ) → List Receipt → Type 0
IsFresh t sends [] = ⊥
IsFresh t sends (receipt ∷ older) =
    (suc (newest_of (receipt ∷ older)) ≡ length sends)
    × (t < arrival_of_newest (receipt ∷ older) + 2500)

-- none arrived less than 2,500 ms before moment t
abbrev pub is_silent : ℕ → List Receipt → Bool
is_silent t those = list_all (λ receipt. nat_le (receipt.moment + 2500) t) those

-- ---- where several plays send

-- which send of play i an origin is, where it is one
abbrev pub send_number : ℕ → Option (ℕ × ℕ) → Option ℕ
send_number i None = None
send_number i (Some origin) = if origin.0 == i then Some origin.1 else None

-- the sends of play i that arrived
abbrev pub receipts_of : ℕ → Traffic (ℕ × ℕ) → List Receipt
receipts_of i [] = []
receipts_of i (traced ∷ older) =
    with_receipt traced.arrival.moment (send_number i traced.origin) (receipts_of i older)
