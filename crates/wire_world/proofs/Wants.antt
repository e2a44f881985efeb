-- Which packets the events to come want, and that they are kept.
use Rattle.std.proofs.Common.{◌≡◌, ℕ, zero, suc, ◌+◌, ◌<◌, ◌≤◌, refl, ap, sym, subst, ◌∙◌, List, []}
use Rattle.std.proofs.Common.{◌∷◌, ◌-◌, ◌^◌, length, set, replicate, Some, inl, inr, arith, Option}
use Rattle.std.proofs.Common.{None, slice_get, slice_index, All}
use Rattle.std.proofs.lemmas.Bool.{cases_eq}
use Rattle.std.proofs.lemmas.List.{get_or-set_other, get_or-set_same, get_or-replicate}
use Rattle.std.proofs.lemmas.List.{length-replicate}
use Rattle.wire_world.specs.Wanted.{IsFrom, IsUpTo, Spares, row_of, AreLows, AreUpTo, Holds, span_at}
use Rattle.wire_world.proofs.Terms.{same_Some, get_or_from_slice_get, slice_get_within, length-set}
use Rattle.wire_world.proofs.Terms.{Happening, Occurrence, Deliver, option_map, Start, World, console_at}
use Rattle.wire_world.proofs.Terms.{Stage, gone_of, StageStands, LinkTells, ConsolesStand, AllTell}
use Rattle.wire_world.proofs.Linked.{first_gone}

-- ---- the least numbers of the packets that later events deliver

-- a delivery is of no packet before the least of its row
abbrev pub IsLeast : List ℕ → Occurrence → Type 0
IsLeast least what = (r i u k : ℕ) → what ≡ Deliver r i u k → slice_index least (row_of i u) ≤ k

-- so for the events from event n on
pub record AreLowsFrom (events : List Happening) (lows least : List ℕ) (n : ℕ) : Type 0 where
  pub long : length lows ≡ length events
  pub wide : length least ≡ 64
  pub least_are : (j : ℕ) (f : Happening) → n ≤ j → slice_get events j ≡ Some f
      → IsLeast least f.what
  pub lows_are : (i j : ℕ) (e f : Happening) → n ≤ i → i < j → slice_get events i ≡ Some e
      → slice_get events j ≡ Some f → Spares e.what (slice_index lows i) f.what
  pub greatest : (row low : ℕ) → row < 64 → low < 2 ^ 64
      → ((j : ℕ) (f : Happening) → n ≤ j → slice_get events j ≡ Some f → IsFrom row low f.what)
      → low ≤ slice_index least row
  pub greatest_are : (i r c u k low : ℕ) (e : Happening) → n ≤ i → slice_get events i ≡ Some e
      → e.what ≡ Deliver r c u k → low < 2 ^ 64
      → ((j : ℕ) (f : Happening) → i < j → slice_get events j ≡ Some f
      → IsFrom (row_of c u) low f.what) → low ≤ slice_index lows i

-- before the last event nothing is wanted yet
pub lows_first : (events : List Happening) (lows : List ℕ) → length lows ≡ length events
    → AreLowsFrom events lows (replicate 64 (2 ^ 64 - 1)) (length events)
lows_first events lows long = record {
  long = long;
  wide = length-replicate 64 (2 ^ 64 - 1);
  least_are = λ j f l g. absurd (omega (arith, l, slice_get_within events j f g));
  lows_are = λ i j e f l m a b. absurd (omega (arith, l, slice_get_within events i e a));
  greatest = λ row low inside wide all.
      omega (arith, get_or-replicate 64 row (2 ^ 64 - 1) 0 inside, wide);
  greatest_are = λ i r c u k low e l a is wide all.
      absurd (omega (arith, l, slice_get_within events i e a));
}

-- a lower one in its place
index_less : (xs : List ℕ) (i j y : ℕ) → y ≤ slice_index xs i
    → slice_index (set xs i y) j ≤ slice_index xs j
index_less [] i j y l = omega arith
index_less (x ∷ xs) zero zero y l = l
index_less (x ∷ xs) zero (suc j) y l = omega arith
index_less (x ∷ xs) (suc i) zero y l = omega arith
index_less (x ∷ xs) (suc i) (suc j) y l = index_less xs i j y l

-- what holds of each event: of event n, and of the others
one_more : (P : ℕ → Happening → Type 0) (events : List Happening) (n : ℕ) (e : Happening)
    → slice_get events n ≡ Some e → P n e
    → ((j : ℕ) (f : Happening) → (n ≡ j → ⊥) → slice_get events j ≡ Some f → P j f)
    → (j : ℕ) (f : Happening) → slice_get events j ≡ Some f → P j f
one_more P events n e at new old j f g = elim (cases_eq n j) [
  | inl q ↦
      (let same : e ≡ f = same_Some e f (sym at ∙ ap (slice_get events) q ∙ g) in
      rw (← q, ← same) new)
  | inr q ↦ old j f q g
]

-- an event before these, and what it changes
module _ (events : List Happening) (lows least : List ℕ) (from n : ℕ) (e : Happening)
    (next : from ≡ n + 1) (at : slice_get events n ≡ Some e)
    (all : AreLowsFrom events lows least from) where
  lows_with : (new_lows new_least : List ℕ) → length new_lows ≡ length lows
      → length new_least ≡ length least
      → ((row : ℕ) → slice_index new_least row ≤ slice_index least row) → IsLeast new_least e.what
      → ((row low : ℕ) → IsFrom row low e.what → low ≤ slice_index least row
      → low ≤ slice_index new_least row)
      → ((i : ℕ) → n < i → slice_index new_lows i ≡ slice_index lows i)
      → ((r c u k : ℕ) → e.what ≡ Deliver r c u k
      → slice_index new_lows n ≡ slice_index least (row_of c u))
      → AreLowsFrom events new_lows new_least n
  lows_with new_lows new_least long wide less first kept past here = record {
    long = long ∙ all.long;
    wide = wide ∙ all.wide;
    least_are = λ j f l g. one_more (λ j f. n ≤ j → IsLeast new_least f.what) events n e at
        (λ _. first) (λ j f q g l r i u k is.
        let was = all.least_are j f (omega (arith, l, q)) g r i u k is in
        omega (arith, less (row_of i u), was)) j f g l;
    lows_are = λ i j d f l m a b. one_more
        (λ i d. n ≤ i → i < j → Spares d.what (slice_index new_lows i) f.what) events n e at
        (λ _ m r c u k q v is other.
        let least = all.least_are j f (omega (arith, m)) b q c u v other in
        omega (arith, here r c u k is, least))
        (λ i d q a l m. rw (past i (omega (arith, l, q)))
        (all.lows_are i j d f (omega (arith, l, q)) m a b)) i d a l m;
    greatest = λ row low inside wide h. kept row low (h n e (omega arith) at)
        (all.greatest row low inside wide (λ j f l g. h j f (omega (arith, l, next)) g));
    greatest_are = λ i r c u k low d l a is wide h. one_more
        (λ i d. n ≤ i → d.what ≡ Deliver r c u k → ((j : ℕ) (f : Happening) → i < j
        → slice_get events j ≡ Some f → IsFrom (row_of c u) low f.what)
        → low ≤ slice_index new_lows i) events n e at
        (λ _ is h. let most = all.greatest (row_of c u) low (omega arith) wide
        (λ j f l g. h j f (omega (arith, l, next)) g) in omega (arith, here r c u k is, most))
        (λ i d q a l is h.
        let most = all.greatest_are i r c u k low d (omega (arith, next, l, q)) a is wide h in
        omega (arith, past i (omega (arith, l, q)), most)) i d a l is h;
  }

  -- no delivery
  pub lows_still : ((r i u k : ℕ) → e.what ≡ Deliver r i u k → ⊥) → AreLowsFrom events lows least n
  lows_still other = lows_with lows least refl refl (λ row. omega arith)
      (λ r i u k is. absurd (other r i u k is)) (λ row low _ l. l) (λ i l. refl)
      (λ r c u k is. absurd (other r c u k is))

  -- a delivery
  pub lows_more : (r c u k row y : ℕ) → e.what ≡ Deliver r c u k → row ≡ row_of c u
      → n < length events → row < length least → y ≤ slice_index least row → y ≤ k
      → ((low : ℕ) → low ≤ slice_index least row → low ≤ k → low ≤ y)
      → AreLowsFrom events (set lows n (slice_index least row)) (set least row y) n
  lows_more r c u k row y is named within inside less low meet =
      let kept = get_or-set_same lows n (slice_index least row) 0
      (omega (arith, within, all.long)) in
      let lower = get_or-set_same least row y 0 inside in
      lows_with (set lows n (slice_index least row)) (set least row y) (length-set lows n _)
      (length-set least row y) (λ j. index_less least row j y less)
      (λ q d v m e. let same : row ≡ row_of d v = cc in let k_is : k ≡ m = cc in
      omega (arith, lower, ap (slice_index (set least row y)) same, low))
      (λ other n h l. elim (cases_eq row other) [
        | inl q ↦
            (let most = meet n (omega (arith, l, ap (slice_index least) q))
            (h r c u k is (sym named ∙ q)) in
            omega (arith, lower, ap (slice_index (set least row y)) q, most))
        | inr q ↦ omega (arith, l, get_or-set_other least row other y 0 (λ e. q (sym e)))
      ])
      (λ i l. get_or-set_other lows n i (slice_index least row) 0 (λ q. omega (arith, l, q)))
      (λ q d v m e. let same : row ≡ row_of d v = cc in
      omega (arith, kept, ap (slice_index least) same))

-- ---- the last packet of all

-- of the events before event n
abbrev pub AreUpToBefore : List Happening → ℕ → ℕ → Type 0
AreUpToBefore events last n = (j : ℕ) (e : Happening) → j < n → slice_get events j ≡ Some e
    → IsUpTo last e.what

-- one event more
pub up_to_next : (events : List Happening) (last new n : ℕ) (e : Happening)
    → slice_get events n ≡ Some e
    → last ≤ new → IsUpTo new e.what → AreUpToBefore events last n
    → AreUpToBefore events new (n + 1)
up_to_next events last new n e at l first all j f m g =
    one_more (λ j f. j < n + 1 → IsUpTo new f.what) events n e at (λ _. first)
    (λ j f q g m r i u k is. omega (arith, l, all j f (omega (arith, m, q)) g r i u k is)) j f g m

-- ---- what the events to come want is kept

-- a console whose packets are as they were
pub spans_set : {F : Type 0} (stages : List (Stage F)) (i : ℕ) (was is : Stage F)
    → slice_get stages i ≡ Some was
    → ((u : ℕ) → gone_of is.shelves.items u ≡ gone_of was.shelves.items u)
    → is.last ≡ was.last → (j u : ℕ) → span_at (set stages i is) j u ≡ span_at stages j u
spans_set [] i was is at same last j u = cc
spans_set (s ∷ stages) zero was is at same last zero u = let e : was ≡ s = cc in
    rw (same u, last) (ap (λ s. Some (gone_of s.shelves.items u, s.last)) e)
spans_set (s ∷ stages) zero was is at same last (suc j) u = refl
spans_set (s ∷ stages) (suc i) was is at same last zero u = refl
spans_set (s ∷ stages) (suc i) was is at same last (suc j) u =
    spans_set stages i was is at same last j u

-- what stands where as many are gone
holds_same : {F : Type 0} (old new : List (Stage F))
    → ((i u : ℕ) → span_at new i u ≡ span_at old i u) → (what : Occurrence) → Holds old what
    → Holds new what
holds_same {F} old new same what h r i u k s e at =
    go (slice_get old i) refl (sym (same i u) ∙ ap (option_map span) at)
  where
    span : Stage F → ℕ × ℕ
    span s = (gone_of s.shelves.items u, s.last)

    go : (o : Option (Stage F)) → slice_get old i ≡ o → option_map span o ≡ Some (span s)
        → (gone_of s.shelves.items u ≤ k) × (k ≤ s.last)
    go None q z = cc
    go (Some t) q z = subst (λ (p : ℕ × ℕ). (p.0 ≤ k) × (k ≤ p.1))
        (same_Some (span t) (span s) z) (h r i u k t e q)

-- ---- all events to come

-- each packet that they want is there
abbrev pub AllHold : {F : Type 0} → List (Stage F) → List Happening → ℕ → Type 0
AllHold stages events i = (j : ℕ) (e : Happening) → i ≤ j → slice_get events j ≡ Some e
    → Holds stages e.what

-- at the beginning none is gone
pub hold_first : {F : Type 0} (sf : F → List Start → Type 0) (stages : List (Stage F)) (w : World)
    (events : List Happening) → ConsolesStand (StageStands sf) stages w []
    → AllTell LinkTells stages
    → All (λ stage. AreUpTo events stage.last) stages → AllHold stages events 0
hold_first {F} sf stages w events all tell wanted j e l g r i u n s is at =
    let none = first_gone (console_at w i) u _ _ _
    ((all.stand i s at).packets_kept (tell i s at) u) in (
      omega (arith, none),
      rw (get_or_from_slice_get stages i s s at)
          at (wanted i s (slice_get_within stages i s at)) j e g r i u n is,
    )

-- one event later
pub hold_next : {F : Type 0} (old stepped new : List (Stage F)) (events : List Happening)
    (lows : List ℕ) (i : ℕ) (e : Happening) → slice_get events i ≡ Some e → AreLows events lows
    → ((i u : ℕ) → span_at stepped i u ≡ span_at old i u)
    → ((later : Occurrence) → Holds stepped later → Spares e.what (slice_index lows i) later
    → Holds new later) → AllHold old events i → AllHold new events (i + 1)
hold_next old stepped new events lows i e at are same released all = λ j f l g.
    released f.what (holds_same old stepped same f.what (all j f (omega (arith, l)) g))
    (are i j e f (omega (arith, l)) at g)
