-- What a line says has its numbers in their ranges and within the limits under which it was read,
-- and speaks of the record that owns it.
use Rattle.show_line.proofs.Terms.{◌≡◌, ℕ, ◌≤◌, Bool, true, false, List, [], ◌∷◌, IsTrue, All, refl}
use Rattle.show_line.proofs.Terms.{sym, arith, Option, Some, None, unwrap_or, is_some, codes}
use Rattle.show_line.proofs.Terms.{if◌then◌else◌, option_map_or, nat_tests, All-nil, All-cons}
use Rattle.show_line.proofs.Terms.{All-weaker, none-some, same_word, number_of, level_of, time_of}
use Rattle.show_line.proofs.Terms.{cue_number_of, is_within, is_time, LineFault, BadNumber, BadTime}
use Rattle.show_line.proofs.Terms.{Keyword, Cleared, Record, Statement, Opens, Levels}
use Rattle.show_line.proofs.Terms.{CueTime, SetsTime, Patches, Clears, Quiet, Skipped, Faulty}
use Rattle.show_line.proofs.Terms.{Triple, value_for, may_own, lower, unless, number_fault}
use Rattle.show_line.proofs.Terms.{cue_fault, page_fault, time_fault, Limits, desk_limits}
use Rattle.show_line.proofs.Terms.{pair_fault, pairs_in, triple_fault, triples_in, unless_faulty}
use Rattle.show_line.proofs.Terms.{is_page_1, record_said, cue_named, group_named, sub_named}
use Rattle.show_line.proofs.Terms.{patch_said, rate_fault, rate_in, ident_said, cleared_names}
use Rattle.show_line.proofs.Terms.{follow_fault, follow_in, clear_said, owned_said, time_said}
use Rattle.show_line.proofs.Terms.{read_as, Ok, Err}
use Rattle.show_line.proofs.Terms.{statement_in}
use Rattle.show_line.proofs.Terms.{IsRecordInRange, IsPairInRange, IsTripleInRange, IsRateInRange}
use Rattle.show_line.proofs.Terms.{IsTimeInRange, IsSound}
use Rattle.show_line.specs.declared.fault.LineFault.TheVariants.{Ident as BadIdent}
use Rattle.show_core.specs.declared.cue.CueTime.TheVariants as cue_time
use Rattle.show_line.specs.declared.keyword.Keyword.TheVariants as keywords
use Rattle.show_line.specs.declared.statement.Record.TheVariants as record_of
use Rattle.show_line.proofs.Lowest.{lower_both}
use Rattle.show_line.proofs.Ranges.{number_in_range, next_pair, next_triple}
use Rattle.show_line.proofs.Forms.{time_small, cue_number_small}

-- the channel of a pair is one that there is
abbrev pub IsPairWithin : Limits → ℕ × ℕ → Type 0
IsPairWithin lim pair = (1 ≤ pair.0) × (pair.0 ≤ lim.channels)

-- the channel of a triple is one that there is, or 0, and the dimmer is one that there is
abbrev pub IsTripleWithin : Limits → Triple → Type 0
IsTripleWithin lim t = (t.channel ≤ lim.channels) × (1 ≤ t.dimmer) × (t.dimmer ≤ lim.dimmers)

-- what holds of what a line says under this owner; `own` tells whether the line may own others
abbrev pub IsSaid : Limits → Option Record → Bool → Statement → Type 0
IsSaid lim owner own (Opens which) = IsRecordInRange which
IsSaid lim owner own (Levels which pairs) = (owner ≡ Some which) × All (IsPairWithin lim) pairs
IsSaid lim owner own (SetsTime n time) = (owner ≡ Some (record_of.Cue n)) × IsTimeInRange time
IsSaid lim owner own (Patches triples) = All (IsTripleWithin lim) triples
IsSaid lim owner own (Clears what) = own ≡ true
IsSaid lim owner own _ = Unit {0}

-- ---- words without a fault

is_within-le : (most n : ℕ) → 1 ≤ n → n ≤ most → IsTrue (is_within most n)
is_within-le most n a b = grind (arith, nat_tests)

is_spelt : (o : Option ℕ) (f : LineFault) → unless (is_some o) f ≡ None → o ≡ Some (unwrap_or o 0)
is_spelt None f h = absurd (none-some f (sym h))
is_spelt (Some n) f h = refl

cue_in_range : (word : List ℕ) → cue_fault word ≡ None → IsRecordInRange (cue_named word)
cue_in_range word h = cue_number_small word _ (is_spelt (cue_number_of word) BadNumber h)

group_in_range : (word : List ℕ) → number_fault 1 500 word ≡ None
    → IsRecordInRange (group_named word)
group_in_range word h = let r = number_in_range 1 500 word h in is_within-le 500 _ r.above r.below

sub_in_range : (word : List ℕ) → number_fault 1 100 word ≡ None → IsRecordInRange (sub_named word)
sub_in_range word h = let r = number_in_range 1 100 word h in is_within-le 100 _ r.above r.below

time_in_range : (word : List ℕ) → time_fault word ≡ None
    → IsTrue (is_time (unwrap_or (time_of word) 0))
time_in_range word h = time_small word _ (is_spelt (time_of word) BadTime h)

rate_in_range : (words : List (List ℕ)) → rate_fault words ≡ None → IsRateInRange (rate_in words)
rate_in_range [] h = (refl, refl)
rate_in_range (time ∷ []) h = (time_in_range time (lower_both (time_fault time) None h).0, refl)
rate_in_range (time ∷ delay ∷ words) h =
    let p = lower_both (time_fault time) (time_fault delay) h in
    (time_in_range time p.0, time_in_range delay p.1)

follow_in_range : (words : List (List ℕ)) → follow_fault words ≡ None
    → IsTrue (is_time (follow_in words))
follow_in_range [] h = refl
follow_in_range (time ∷ words) h = time_in_range time h

module _ (lim : Limits) where
  -- the channels of a CHAN line
  pairs_within : (words : List (List ℕ)) → pair_fault lim words ≡ None
      → All (IsPairWithin lim) (pairs_in words)
  pairs_within [] h = All-nil (IsPairWithin lim)
  pairs_within (channel ∷ []) h = All-nil (IsPairWithin lim)
  pairs_within (channel ∷ level ∷ words) h =
      let p = next_pair lim (channel ∷ level ∷ words) refl h in
      let r = number_in_range 1 lim.channels channel p.of_channel in
      let pair : ℕ × ℕ = (unwrap_or (number_of channel) 0, unwrap_or (level_of level) 0) in
      All-cons (IsPairWithin lim) pair (pairs_in words) (r.above, r.below)
      (pairs_within words p.behind)

  -- the dimmers and channels of a PATCH line
  triples_within : (words : List (List ℕ)) → triple_fault lim words ≡ None
      → All (IsTripleWithin lim) (triples_in words)
  triples_within [] h = All-nil (IsTripleWithin lim)
  triples_within (channel ∷ []) h = All-nil (IsTripleWithin lim)
  triples_within (channel ∷ dimmer ∷ []) h = All-nil (IsTripleWithin lim)
  triples_within (channel ∷ dimmer ∷ level ∷ words) h =
      let p = next_triple lim (channel ∷ dimmer ∷ level ∷ words) refl h in
      let q = number_in_range 0 lim.channels channel p.of_channel in
      let r = number_in_range 1 lim.dimmers dimmer p.of_dimmer in
      All-cons (IsTripleWithin lim) (record {
        channel = unwrap_or (number_of channel) 0;
        dimmer = unwrap_or (number_of dimmer) 0;
        level = unwrap_or (level_of level) 0;
      }) (triples_in words) (q.below, r.above, r.below) (triples_within words p.behind)

-- ---- a line

module _ (lim : Limits) (owner : Option Record) (own : Bool) where
  said-if : (b : Bool) (s t : Statement) → IsSaid lim owner own s → IsSaid lim owner own t
      → IsSaid lim owner own (if b then s else t)
  said-if true s t h g = h
  said-if false s t h g = g

  said-unless_faulty : (fault : Option LineFault) (s : Statement)
      → (fault ≡ None → IsSaid lim owner own s) → IsSaid lim owner own (unless_faulty fault s)
  said-unless_faulty None s h = h refl
  said-unless_faulty (Some f) s h = tt

  said-ident : (words : List (List ℕ)) → IsSaid lim owner own (ident_said words)
  said-ident [] = tt
  said-ident (version ∷ words) =
      said-if (same_word version (codes "3:0")) Quiet (Faulty BadIdent) tt tt

  -- a record whose number is in its range where the word has no fault
  said-record : (fault : List ℕ → Option LineFault) (which : List ℕ → Record)
      → ((word : List ℕ) → fault word ≡ None → IsRecordInRange (which word))
      → (words : List (List ℕ)) → IsSaid lim owner own (record_said fault which words)
  said-record fault which fine [] = tt
  said-record fault which fine (number ∷ words) =
      let opens = Opens (which number) in
      said-unless_faulty (lower (fault number) (page_fault words))
      (if is_page_1 words then opens else Skipped)
      (λ e. said-if (is_page_1 words) opens Skipped
      (fine number (lower_both (fault number) (page_fault words) e).0) tt)

  said-patch : (words : List (List ℕ)) → IsSaid lim owner own (patch_said lim words)
  said-patch [] = tt
  said-patch (page ∷ words) =
      let patches = Patches (triples_in words) in
      let triples = unless_faulty (triple_fault lim words) patches in
      said-unless_faulty (page_fault (page ∷ words))
      (if is_page_1 (page ∷ words) then triples else Skipped)
      (λ _. said-if (is_page_1 (page ∷ words)) triples Skipped
      (said-unless_faulty (triple_fault lim words) patches (triples_within lim words)) tt)

said-clear : (lim : Limits) (owner : Option Record) (words : List (List ℕ))
    → IsSaid lim owner true (clear_said words)
said-clear lim owner [] = tt
said-clear lim owner (what ∷ []) = of_table (value_for cleared_names what)
  where
    of_table : (o : Option Cleared) → IsSaid lim owner true (option_map_or Clears o Skipped)
    of_table None = tt
    of_table (Some c) = refl
said-clear lim owner (what ∷ more ∷ words) = tt

-- a time in its range where its words have no fault
said-time : {X : Type 0} (lim : Limits) (owner : Option Record) (time : X → CueTime)
    (fault : Option LineFault) (x : X) → (fault ≡ None → IsTimeInRange (time x))
    → IsSaid lim owner false
    (owned_said owner (time_said (read_as time (option_map_or Err fault (Ok x)))))
said-time lim (Some (record_of.Cue n)) time None x fits = (refl, fits refl)
said-time lim owner time fault x fits = tt

pub said_is : (lim : Limits) (owner : Option Record) (keyword : Keyword) (words : List (List ℕ))
    → IsSaid lim owner (may_own keyword) (statement_in lim owner keyword words)
said_is lim owner keywords.Clear words = said-clear lim owner words
said_is lim owner keywords.Ident words = said-ident lim owner true words
said_is lim owner keywords.Cue words =
    said-record lim owner true cue_fault cue_named cue_in_range words
said_is lim owner keywords.Group words =
    said-record lim owner true (number_fault 1 500) group_named group_in_range words
said_is lim owner keywords.Sub words =
    said-record lim owner true (number_fault 1 100) sub_named sub_in_range words
said_is lim owner keywords.Patch words = said-patch lim owner true words
said_is lim (Some r) keywords.Chan words =
    said-unless_faulty lim (Some r) false (pair_fault lim words) (Levels r (pairs_in words))
    (λ e. (refl, pairs_within lim words e))
said_is lim owner keywords.Up words =
    said-time lim owner cue_time.Up (rate_fault words) (rate_in words) (rate_in_range words)
said_is lim owner keywords.Down words =
    said-time lim owner cue_time.Down (rate_fault words) (rate_in words) (rate_in_range words)
said_is lim owner keywords.FollowOn words =
    said-time lim owner cue_time.Follow (follow_fault words) (follow_in words)
    (follow_in_range words)
said_is lim None keywords.Remark words = tt
said_is lim owner keyword words = tt

-- so at this desk its numbers are in their ranges
pub said_sound : (owner : Option Record) (own : Bool) (s : Statement)
    → IsSaid desk_limits owner own s → IsSound s
said_sound owner own (Opens which) h = h
said_sound owner own (Levels which pairs) h =
    All-weaker (IsPairWithin desk_limits) IsPairInRange (λ p w. is_within-le 4096 p.0 w.0 w.1)
    pairs h.1
said_sound owner own (SetsTime n time) h = h.1
said_sound owner own (Patches triples) h =
    All-weaker (IsTripleWithin desk_limits) IsTripleInRange (λ t w. grind (arith, nat_tests))
    triples h
said_sound owner own s h = tt
