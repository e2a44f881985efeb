-- What the words of a line without a fault are.
use Rattle.show_line.proofs.Terms.{◌≡◌, ℕ, ◌≤◌, List, ◌∷◌, sym, arith, Option, Some, None}
use Rattle.show_line.proofs.Terms.{unwrap_or, nat_tests, common_steps, none-some, number_of}
use Rattle.show_line.proofs.Terms.{BadNumber, range_fault, number_fault, level_fault, Limits}
use Rattle.show_line.proofs.Terms.{pair_fault, triple_fault}
use Rattle.show_line.proofs.Lowest.{lower_both}

-- a number in its range
pub record IsNumberIn (least most : ℕ) (word : List ℕ) : Type 0 where
  pub above : least ≤ unwrap_or (number_of word) 0
  pub below : unwrap_or (number_of word) 0 ≤ most

in_range : (least most : ℕ) (o : Option ℕ) → range_fault least most o ≡ None
    → (least ≤ unwrap_or o 0) × (unwrap_or o 0 ≤ most)
in_range least most None h = absurd (none-some BadNumber (sym h))
in_range least most (Some n) h =
    (grind (arith, nat_tests, common_steps), grind (arith, nat_tests, common_steps))

pub number_in_range : (least most : ℕ) (word : List ℕ) → number_fault least most word ≡ None
    → IsNumberIn least most word
number_in_range least most word h =
    let r = in_range least most (number_of word) h in
    record { above = r.0; below = r.1 }

-- a pair without a fault, and none behind it
pub record IsPairFaultless (lim : Limits) (channel level : List ℕ)
    (left : List (List ℕ)) : Type 0 where
  pub of_channel : number_fault 1 lim.channels channel ≡ None
  pub of_level : level_fault level ≡ None
  pub behind : pair_fault lim left ≡ None

pub next_pair : (lim : Limits) (words : List (List ℕ)) {left : List (List ℕ)}
    {channel level : List ℕ}
    → words ≡ channel ∷ level ∷ left → pair_fault lim words ≡ None
    → IsPairFaultless lim channel level left
next_pair lim words {left} {channel} {level} is none =
    let p = lower_both _ (pair_fault lim left) (rw is at none) in
    let q = lower_both (number_fault 1 lim.channels channel) (level_fault level) p.0 in
    record { of_channel = q.0; of_level = q.1; behind = p.1 }

-- a triple without a fault, and none behind it
pub record IsTripleFaultless (lim : Limits) (channel dimmer level : List ℕ)
    (left : List (List ℕ)) : Type 0 where
  pub of_channel : number_fault 0 lim.channels channel ≡ None
  pub of_dimmer : number_fault 1 lim.dimmers dimmer ≡ None
  pub of_level : level_fault level ≡ None
  pub behind : triple_fault lim left ≡ None

pub next_triple : (lim : Limits) (words : List (List ℕ)) {left : List (List ℕ)}
    {channel dimmer level : List ℕ}
    → words ≡ channel ∷ dimmer ∷ level ∷ left → triple_fault lim words ≡ None
    → IsTripleFaultless lim channel dimmer level left
next_triple lim words {left} {channel} {dimmer} {level} is none =
    let p = lower_both _ (triple_fault lim left) (rw is at none) in
    let q = lower_both _ (level_fault level) p.0 in
    let r = lower_both (number_fault 0 lim.channels channel) (number_fault 1 lim.dimmers dimmer)
    q.0 in
    record { of_channel = r.0; of_dimmer = r.1; of_level = q.1; behind = p.1 }
