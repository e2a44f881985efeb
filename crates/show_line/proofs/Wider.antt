-- What a line says without a fault, it says under wider limits too.
use Rattle.show_line.proofs.Terms.{◌≡◌, ℕ, ◌≤◌, Bool, true, false, List, [], ◌∷◌, refl, ap, arith}
use Rattle.show_line.proofs.Terms.{Option, Some, None, if◌then◌else◌, nat_tests, common_steps}
use Rattle.show_line.proofs.Terms.{number_of, LineFault, HalfPair, HalfTriple, Keyword, Patch}
use Rattle.show_line.proofs.Terms.{Chan, Record, Statement, Levels}
use Rattle.show_line.proofs.Terms.{Patches, Skipped, range_fault, number_fault, lower, page_fault}
use Rattle.show_line.proofs.Terms.{Limits, pair_fault, pairs_in, triple_fault, triples_in}
use Rattle.show_line.proofs.Terms.{unless_faulty, is_page_1, patch_said, levels_said, owned_said}
use Rattle.show_line.proofs.Terms.{statement_in, IsFaultless}
use Rattle.show_line.proofs.Lowest.{lower_some}
use Rattle.show_line.proofs.Ranges.{next_pair, next_triple}

range_wider : (least m n : ℕ) (o : Option ℕ) → m ≤ n → range_fault least m o ≡ None
    → range_fault least n o ≡ None
range_wider least m n None le h = h
range_wider least m n (Some k) le h = grind (arith, nat_tests, common_steps)

unless_wider : (a b : Option LineFault) (s : Statement) → (a ≡ None → b ≡ None)
    → IsFaultless (unless_faulty a s) → unless_faulty b s ≡ unless_faulty a s
unless_wider None b s h fine = ap (λ o. unless_faulty o s) (h refl)
unless_wider (Some f) b s h fine = absurd fine

-- the same behind a page
page_wider : (page : Option LineFault) (b : Bool) (m n : Statement) → (IsFaultless m → n ≡ m)
    → IsFaultless (unless_faulty page (if b then m else Skipped))
    → unless_faulty page (if b then n else Skipped) ≡ unless_faulty page (if b then m else Skipped)
page_wider (Some f) b m n h fine = refl
page_wider None false m n h fine = refl
page_wider None true m n h fine = h fine

module _
    (narrow wide : Limits)
    (more_channels : narrow.channels ≤ wide.channels)
    (more_dimmers : narrow.dimmers ≤ wide.dimmers) where
  -- the pairs of CHAN
  pub pairs_wider : (words : List (List ℕ)) → pair_fault narrow words ≡ None
      → pair_fault wide words ≡ None
  pairs_wider [] h = refl
  pairs_wider (channel ∷ []) h = absurd (lower_some (number_fault 1 _ channel) HalfPair h)
  pairs_wider (channel ∷ level ∷ words) h =
      let p = next_pair narrow (channel ∷ level ∷ words) refl h in
      let wider = range_wider 1 narrow.channels _ (number_of channel) more_channels p.of_channel in
      rw (wider, p.of_level) (pairs_wider words p.behind)

  -- the triples of PATCH
  pub triples_wider : (words : List (List ℕ)) → triple_fault narrow words ≡ None
      → triple_fault wide words ≡ None
  triples_wider [] h = refl
  triples_wider (channel ∷ []) h = absurd (lower_some (number_fault 0 _ channel) HalfTriple h)
  triples_wider (channel ∷ dimmer ∷ []) h =
      absurd (lower_some (lower (number_fault 0 _ channel) (number_fault 1 _ dimmer)) HalfTriple h)
  triples_wider (channel ∷ dimmer ∷ level ∷ words) h =
      let p = next_triple narrow (channel ∷ dimmer ∷ level ∷ words) refl h in
      let channels = range_wider 0 narrow.channels _ (number_of channel) more_channels
      p.of_channel in
      let dimmers = range_wider 1 narrow.dimmers _ (number_of dimmer) more_dimmers p.of_dimmer in
      rw (channels, dimmers, p.of_level) (triples_wider words p.behind)

  patch_wider : (words : List (List ℕ)) → IsFaultless (patch_said narrow words)
      → patch_said wide words ≡ patch_said narrow words
  patch_wider [] fine = refl
  patch_wider (page ∷ words) fine =
      page_wider (page_fault (page ∷ words)) (is_page_1 (page ∷ words)) _ _
      (unless_wider (triple_fault narrow words) (triple_fault wide words)
      (Patches (triples_in words))
      (triples_wider words)) fine

  chan_wider : (owner : Option Record) (words : List (List ℕ))
      → IsFaultless (owned_said owner (levels_said narrow words))
      → owned_said owner (levels_said wide words) ≡ owned_said owner (levels_said narrow words)
  chan_wider None words fine = refl
  chan_wider (Some r) words fine =
      unless_wider (pair_fault narrow words) (pair_fault wide words) (Levels r (pairs_in words))
      (pairs_wider words) fine

  -- a line
  pub said_wider : (owner : Option Record) (keyword : Keyword) (words : List (List ℕ))
      → IsFaultless (statement_in narrow owner keyword words)
      → statement_in wide owner keyword words ≡ statement_in narrow owner keyword words
  said_wider owner Patch words fine = patch_wider words fine
  said_wider owner Chan words fine = chan_wider owner words fine
  said_wider owner keyword words fine = refl
