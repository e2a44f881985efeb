-- Where a receiver keeps a new packet: in place of its CID's older one, of one that is gone, or
-- behind all.
-- Of use inside the crate: what its public calls answer is said without these.
use Rattle.std.specs.Prelude.{◌≡◌, ℕ, zero, suc, ◌<◌, ◌≤◌, true, false, not, ◌||◌, List, [], ◌∷◌}
use Rattle.std.specs.Prelude.{◌++◌, length, take, drop, filter, find, None}
use Rattle.sacn_receiver.specs.Source.{Entry, same_cid, is_there}

-- at most one of each CID
abbrev pub AreApart : List Entry → Type 0
AreApart es = (cid : List ℕ) → length (filter (same_cid cid) es) ≤ 1

-- the same by recursion: no entry behind one has its CID
abbrev pub AreDistinct : List Entry → Type 0
AreDistinct [] = Unit {0}
AreDistinct (e ∷ es) = (find (same_cid e.cid) es ≡ None) × AreDistinct es

-- with this one at a place
abbrev pub put : List Entry → ℕ → Entry → List Entry
put es i e = take i es ++ e ∷ drop (suc i) es

-- of these, the one at a place, if there is one, may go for a packet of this CID at moment t: it
-- is of this CID, or gone; and no other is of this CID
abbrev pub IsFree : ℕ → List ℕ → List Entry → ℕ → Type 0
IsFree t cid [] i = Unit {0}
IsFree t cid (e ∷ es) zero =
    ((same_cid cid e || not (is_there t e)) ≡ true) × (find (same_cid cid) es ≡ None)
IsFree t cid (e ∷ es) (suc i) = (same_cid cid e ≡ false) × IsFree t cid es i

-- a packet of this CID may be kept at this place from moment t on
pub record IsPlace (es : List Entry) (t : ℕ) (cid : List ℕ) (i : ℕ) : Type 0 where
  pub within : i ≤ length es
  pub room : i < 4
  pub free : IsFree t cid es i
