-- Wider limits leave the meaning of a text that has no fault under narrower ones, and what it means
-- stays within those.
use Rattle.std.proofs.Common.{◌≡◌, ℕ, ◌≤◌, Bool, false, List, [], ◌∷◌, All, arith, length, refl}
use Rattle.std.proofs.Common.{Option, None, IfSome, eqb-true}
use Rattle.std.specs.Prelude.{nat_lt}
use Rattle.std.proofs.lemmas.List.Elements.{All-head, All-rest}
use Rattle.show_reader.specs.Terms.{Record, Statement, Levels, Patches, Triple, Limits}
use Rattle.show_line.specs.Keywords.{keyword_of}
use Rattle.show_line.specs.Sound.{IsFaultless}
use Rattle.show_line.proofs.Wider.{said_wider}
use Rattle.show_line.proofs.Ranged.{IsPairWithin, IsTripleWithin, IsSaid}
use Rattle.show_reader.proofs.Lines.{line_said}
use Rattle.show_reader.specs.Text.{Words, said_under, owner_below, statement_below, statements}
use Rattle.show_reader.specs.Text.{lines_in, owns}
use Rattle.show_reader.specs.Keys.{Key, There, Level, Dimmer, KeyAnswer}
use Rattle.show_reader.specs.Meaning.{News, after, last_news, pair_says, triple_says, says, meaning}
use Rattle.show_reader.specs.Reading.{first_fault, text_fault, ReadsAlike, longest_text}
use Rattle.show_reader.specs.Reading.{IsAnswerWithin}

-- ---- lines without a fault

-- neither a line nor one above it has a fault where there is none
both_fine : (above : List Statement) (s : Statement) → first_fault (s ∷ above) ≡ None
    → (first_fault above ≡ None) × IsFaultless s
both_fine above s h = grind arith

module _ (narrow wide : Limits) (more_channels : narrow.channels ≤ wide.channels)
    (more_dimmers : narrow.dimmers ≤ wide.dimmers) where
  -- a line without a fault says the same under wider limits
  said_alike : (owner : Option Record) (l : Words) → IsFaultless (said_under narrow owner l)
      → said_under wide owner l ≡ said_under narrow owner l
  said_alike owner [] fine = refl
  said_alike owner (w ∷ words) fine =
      said_wider narrow wide more_channels more_dimmers owner (keyword_of w) words fine

  -- and so do lines of which none has a fault; what stands below them has the same owner
  alike : (lines : List Words) → first_fault (statements narrow lines) ≡ None
      → (owner_below wide lines ≡ owner_below narrow lines)
      × (statements wide lines ≡ statements narrow lines)
  alike [] none = (refl, refl)
  alike (l ∷ above) none =
      let fine = both_fine (statements narrow above) (statement_below narrow above l) none in
      let same_above = alike above fine.0 in
      let same = said_alike (owner_below narrow above) l fine.1 in
      rw (same_above.0, same_above.1, same) (refl, refl)

-- ---- what is said stays within the limits

abbrev IsNewsWithin : Limits → (k : Key) → News (KeyAnswer k) → Type 0
IsNewsWithin lim k news = IfSome (after news None) (IsAnswerWithin lim k)

module _ (lim : Limits) (k : Key) where
  list_within : {X : Type 0} (P : X → Type 0) (news : X → News (KeyAnswer k))
      → ((x : X) → P x → IsNewsWithin lim k (news x)) → (xs : List X) → All P xs
      → IsNewsWithin lim k (last_news news xs)
  list_within P news each [] all = tt
  list_within P news each (x ∷ xs) all =
      let rest = list_within P news each xs (All-rest P x xs (x ∷ xs) refl all) in
      grind (arith, rest, each x (All-head P x xs all))

module _ (lim : Limits) where
  pair_within : (r : Record) (p : ℕ × ℕ) → IsPairWithin lim p → (k : Key)
      → IsNewsWithin lim k (pair_says r p k)
  pair_within r p h (Level q c) = grind (arith, h, eqb-true)
  pair_within r p h k = tt

  triple_within : (t : Triple) → IsTripleWithin lim t → (k : Key)
      → IsNewsWithin lim k (triple_says t k)
  triple_within t h (Dimmer d) = grind (arith, h, eqb-true)
  triple_within t h k = tt

  says_within : (owner : Option Record) (own : Bool) (s : Statement) → IsSaid lim owner own s
      → (k : Key) → IsNewsWithin lim k (says s k)
  says_within owner own (Levels r ps) h k =
      list_within lim k (IsPairWithin lim) _ (λ p w. pair_within r p w k) ps h.1
  says_within owner own (Patches ts) h k = list_within lim k _ _ (λ t w. triple_within t w k) ts h
  says_within owner own s h (There q) = grind arith
  says_within owner own s h k = grind arith

  meaning_within : (lines : List Words) (k : Key)
      → IfSome (meaning (statements lim lines) k) (IsAnswerWithin lim k)
  meaning_within [] k = tt
  meaning_within (l ∷ above) k =
      let owner = owner_below lim above in
      let said = says_within owner (owns l) _ (line_said lim owner l) k in
      grind (arith, said, meaning_within above k)

-- ---- a text

pub reads_alike : (narrow wide : Limits) → narrow.channels ≤ wide.channels
    → narrow.dimmers ≤ wide.dimmers → (text : List ℕ) → text_fault narrow text ≡ None
    → ReadsAlike narrow wide text
reads_alike narrow wide channels dimmers text none =
    let lines = statements narrow (lines_in text) in
    let fine : (nat_lt longest_text (length text) ≡ false) × (first_fault lines ≡ None)
    = grind arith in
    let same = (alike narrow wide channels dimmers (lines_in text) fine.1).1 in
    record {
      faultless = rw (fine.0, same) fine.1;
      statements = same;
      fits = λ show h k. rw (h k, same) (meaning_within narrow (lines_in text) k);
    }
