-- The window of receipts is that of the deliveries that they are, as a rehearsal has it.
use Rattle.cueplayer.proofs.Terms.{◌≡◌, ℕ, suc, refl, ap, sym, arith, List, [], ◌∷◌, map, length}
use Rattle.cueplayer.proofs.Terms.{◌∙◌, max, Packet, Delivery, IsFreshIn, Receipt, newest_of}
use Rattle.cueplayer.proofs.Terms.{IsInWindow, arrival_of_newest, IsFresh, is_silent}
use Rattle.wire_world.specs.Delivery as wire
use Rattle.cueplayer.proofs.Sources as sources

abbrev pub receipt : Delivery → Receipt
receipt d = record { k = d.k; moment = d.moment }

abbrev pub receipts_in : List Delivery → List Receipt
receipts_in ds = map receipt ds

pub newest_same : (ds : List Delivery) → newest_of (receipts_in ds) ≡ wire.newest_of ds
newest_same [] = refl
newest_same (d ∷ ds) = ap (max d.k) (newest_same ds)

pub window_same : (ds : List Delivery) → IsInWindow (receipts_in ds) → wire.IsInWindow ds
window_same [] w = tt
window_same (d ∷ []) w = tt
window_same (d ∷ e ∷ ds) w =
    let s = newest_same (e ∷ ds) in
    (omega (arith, w.0, s), omega (arith, w.1, s), window_same (e ∷ ds) w.2)

pub arrival_same : (ds : List Delivery) → arrival_of_newest (receipts_in ds) ≡ wire.arrival ds
arrival_same [] = refl
arrival_same (d ∷ []) = refl
arrival_same (d ∷ e ∷ ds) = rw (newest_same (e ∷ ds), arrival_same (e ∷ ds)) refl

pub fresh_same : (t : ℕ) (sends : List (List ℕ)) (ps : List Packet) (ds : List Delivery)
    → length sends ≡ length ps → IsFresh t sends (receipts_in ds) → IsFreshIn t ps ds
fresh_same t sends ps [] l f = f
fresh_same t sends ps (d ∷ ds) l f = (
  ap suc (sym (newest_same (d ∷ ds))) ∙ f.0 ∙ l,
  omega (arith, f.1, arrival_same (d ∷ ds)),
)

pub silent_same : (t : ℕ) (ds : List Delivery)
    → is_silent t (receipts_in ds) ≡ sources.is_silent t ds
silent_same t [] = refl
silent_same t (d ∷ ds) = rw (silent_same t ds) refl
