-- The newest packet of each CID: there is at most one, and it is the one that is found.
use Rattle.std.proofs.Common.{◌≡◌, ℕ, ◌≤◌, Bool, true, false, not, refl, ap, arith, sym, subst}
use Rattle.std.proofs.Common.{inl, inr, ◌∙◌, List, [], ◌∷◌, map, length, get_or, Option, Some, None}
use Rattle.std.specs.Prelude.{filter, find, if◌then◌else◌, All, Contains}
use Rattle.std.specs.List.{list_any}
use Rattle.std.specs.Str.{bytes_eq}
use Rattle.std.proofs.lemmas.Bool.{cond_both, not-true}
use Rattle.std.proofs.lemmas.Cmp.{nat_list_eq_equiv}
use Rattle.std.proofs.lemmas.Slice.Eq.{bytes_eq-Decides}
use Rattle.std.proofs.lemmas.List.{length-map}
use Rattle.std.proofs.lemmas.List.Filters.{length-filter_both}
use Rattle.std.proofs.lemmas.List.Folds.{list_any_at}
use Rattle.std.proofs.lemmas.List.Elements.{All-head, All-filter, filter_passes}
use Rattle.std.proofs.lemmas.Map.Entries.{option_filter}
use Rattle.sacn_receiver.specs.Source.{Entry, same_cid, is_there, newest, records, while_there}
use Rattle.sacn_receiver.specs.Source.{record_of}
use Rattle.sacn_receiver.specs.Places.{AreApart, AreDistinct}
use Rattle.sacn_receiver.proofs.Members.{by_test, In, In_map, found_in, none_found, place_from_in}
use Rattle.sacn_receiver.proofs.Members.{in_from_get_or}

-- the CID that a test passes
pub own_cid : (c : List ℕ) (e : Entry) → same_cid c e ≡ true → c ≡ e.cid
own_cid c e = (bytes_eq-Decides c e.cid).0

-- behind an entry, no other of its CID is found
pub alone : (c : List ℕ) (e : Entry) (es : List Entry) → AreDistinct (e ∷ es)
    → same_cid c e ≡ true → find (same_cid c) es ≡ None
alone c e es s q = ap (λ d. find (same_cid d) es) (own_cid c e q) ∙ s.0

-- what is found for a CID among those that are kept
pub find_kept : (p : Entry → Bool) (c : List ℕ) (es : List Entry) → AreDistinct es
    → find (same_cid c) (filter p es) ≡ option_filter p (find (same_cid c) es)
find_kept p c [] s = refl
find_kept p c (e ∷ es) s =
    let ih = find_kept p c es s.1 in
    by_test (same_cid c e) (λ k. let none = alone c e es s k in grind (arith, ih, k, none))
    (λ k. grind (arith, ih, k))

pub kept_distinct : (p : Entry → Bool) (es : List Entry) → AreDistinct es
    → AreDistinct (filter p es)
kept_distinct p [] s = tt
kept_distinct p (e ∷ es) s =
    cond_both (p e) (e ∷ filter p es) (filter p es) AreDistinct (λ _. (
      find_kept p e.cid es s.1 ∙ ap (option_filter p) s.0,
      kept_distinct p es s.1,
    )) (λ _. kept_distinct p es s.1)

-- a test that answers alike at all that may be found keeps it, or does not
find_known : (q p : Entry → Bool) (b : Bool) → ((e : Entry) → q e ≡ true → p e ≡ b)
    → (es : List Entry) → option_filter p (find q es) ≡ (if b then find q es else None)
find_known q p b h [] = by_test b (λ k. rw k) (λ k. rw k)
find_known q p b h (e ∷ es) =
    let ih = find_known q p b h es in let here = h e in grind (arith, ih, here)

pub newest_distinct : (h : List Entry) → AreDistinct (newest h)
newest_distinct [] = tt
newest_distinct (e ∷ h) =
    let d : AreDistinct (newest h) = newest_distinct h in
    let p : Entry → Bool = λ f. not (same_cid e.cid f) in (
      find_kept p e.cid (newest h) d
          ∙ find_known (same_cid e.cid) p false (λ f q. ap not q) (newest h),
      kept_distinct p (newest h) d,
    )

pub find_newest : (c : List ℕ) (h : List Entry)
    → find (same_cid c) (newest h) ≡ find (same_cid c) h
find_newest c [] = refl
find_newest c (e ∷ h) =
    let p : Entry → Bool = λ f. not (same_cid e.cid f) in
    by_test (same_cid c e) (λ k. rw k) (λ k. rw k (find_kept p c (newest h) (newest_distinct h)
    ∙ find_known (same_cid c) p true (λ f q. ap not (ap (bytes_eq e.cid) (sym (own_cid c f q))
    ∙ nat_list_eq_equiv.symm e.cid c ∙ k)) (newest h) ∙ find_newest c h))

-- what is found for a CID among the records is its record
pub there_kept : (t : ℕ) (o : Option Entry) → option_filter (is_there t) o ≡ while_there t o
there_kept t o = grind arith

pub find_records : (h : List Entry) (t : ℕ) (c : List ℕ)
    → find (same_cid c) (records h t) ≡ record_of h t c
find_records h t c = find_kept (is_there t) c (newest h) (newest_distinct h)
    ∙ ap (option_filter (is_there t)) (find_newest c h) ∙ there_kept t (find (same_cid c) h)

pub records_distinct : (h : List Entry) (t : ℕ) → AreDistinct (records h t)
records_distinct h t = kept_distinct (is_there t) (newest h) (newest_distinct h)

-- each entry is what is found for its CID
pub in_found : (es : List Entry) (e : Entry) → AreDistinct es → In e es
    → find (same_cid e.cid) es ≡ Some e
in_found [] e s i = absurd i
in_found (x ∷ es) e s (inl q) =
    subst (λ (y : Entry). find (same_cid y.cid) (x ∷ es) ≡ Some y) (sym q)
    (rw (nat_list_eq_equiv.refl x.cid))
in_found (x ∷ es) e s (inr i) =
    let ih = in_found es e s.1 i in
    by_test (same_cid e.cid x) (λ k. absurd (let z = alone e.cid x es s k in cc)) (λ k. rw k ih)

pub newest_found : (h : List Entry) (e : Entry) → In e (newest h) → find (same_cid e.cid) h ≡ Some e
newest_found h e i =
    sym (find_newest e.cid h) ∙ in_found (newest h) e (newest_distinct h) i

pub found_newest : (c : List ℕ) (h : List Entry) (e : Entry) → find (same_cid c) h ≡ Some e
    → In e (newest h)
found_newest c h e f = (found_in (same_cid c) e (newest h) (find_newest c h ∙ f)).0

-- each entry's CID is one of these
abbrev pub IsFrom : List (List ℕ) → Entry → Type 0
IsFrom cids e = list_any (λ c. same_cid c e) cids ≡ true

abbrev pub AllIn : List (List ℕ) → List Entry → Type 0
AllIn cids = All (IsFrom cids)

pub one_of : (e : Entry) (cids : List (List ℕ)) → Contains cids e.cid → IsFrom cids e
one_of e cids i =
    list_any_at (λ c. same_cid c e) cids i.0 e.cid i.1 (rw i.2 (nat_list_eq_equiv.refl e.cid))

pub distinct_apart : (es : List Entry) → AreDistinct es → AreApart es
distinct_apart [] s c = omega arith
distinct_apart (e ∷ es) s c =
    by_test (same_cid c e)
    (λ k. rw k (omega (arith, none_found (same_cid c) es (alone c e es s k))))
    (λ k. rw k (distinct_apart es s.1 c))

-- with at most one entry of each CID there are no more entries than CIDs
pub fits : (cs : List (List ℕ)) (es : List Entry) → AllIn cs es → AreDistinct es
    → length es ≤ length cs
fits [] [] a s = omega arith
fits [] (e ∷ es) a s = absurd (let f : false ≡ true = All-head (IsFrom []) e es a in cc)
fits (c ∷ cs) es a s =
    let p : Entry → Bool = λ e. not (same_cid c e) in
    let rest : AllIn cs (filter p es) = λ k d l. rw (not-true _ (filter_passes p es k d l))
    at (All-filter p (IsFrom (c ∷ cs)) es a k d l) in
    let others = fits cs (filter p es) rest (kept_distinct p es s) in
    omega (arith, length-filter_both (same_cid c) p (λ _. refl) es, distinct_apart es s c, others)

-- entries among which the same is found for each CID
abbrev pub FindSame : List Entry → List Entry → Type 0
FindSame es fs = (c : List ℕ) → find (same_cid c) es ≡ find (same_cid c) fs

module _ (es fs : List Entry) (d : AreDistinct es) (s : FindSame es fs) where
  pub same_in : (e : Entry) → In e es → In e fs
  same_in e i = (found_in (same_cid e.cid) e fs (sym (s e.cid) ∙ in_found es e d i)).0

  no_more : length es ≤ length fs
  no_more =
      let cid : Entry → List ℕ = λ f. f.cid in
      let own : AllIn (map cid fs) es = λ k e l. one_of (get_or es k e) (map cid fs)
      (place_from_in _ (map cid fs) (In_map cid _ fs (same_in _ (in_from_get_or es k e l)))) in
      omega (arith, fits (map cid fs) es own d, length-map fs cid)

pub as_many : (es fs : List Entry) → AreDistinct es → AreDistinct fs → FindSame es fs
    → length es ≡ length fs
as_many es fs a b s = omega (arith, no_more es fs a s, no_more fs es b (λ c. sym (s c)))
