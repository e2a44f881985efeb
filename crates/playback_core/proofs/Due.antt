-- The moves that are due: each goes to a greater cue number, so none is left.
use Rattle.playback_core.proofs.Terms.{◌≡◌, ℕ, ◌<◌, ◌≤◌, List, [], ◌∷◌, length, Some, None, refl, arith}
use Rattle.playback_core.proofs.Terms.{find, nat_lt, IfSome, nat_tests, Tables, count_above, Move}
use Rattle.playback_core.proofs.Terms.{next_move, with_follow_ons, with_due}
use Rattle.std.specs.FinMap as map

-- ---- numbers above another

none_found : (ks : List ℕ) (n : ℕ) → count_above ks n ≡ 0 → find (nat_lt n) ks ≡ None
none_found [] n none = refl
none_found (k ∷ ks) n none = grind (arith, nat_tests, none_found ks n)

found_above : (ks : List ℕ) (n found : ℕ) → find (nat_lt n) ks ≡ Some found → n < found
found_above [] n found is = cc
found_above (k ∷ ks) n found is = grind (arith, nat_tests, found_above ks n found)

count_above-mono : (ks : List ℕ) (low high : ℕ) → low ≤ high
    → count_above ks high ≤ count_above ks low
count_above-mono [] low high le = omega arith
count_above-mono (k ∷ ks) low high le =
    grind (arith, nat_tests, count_above-mono ks low high le)

-- fewer numbers are above the one that is found
pub count_above-found : (ks : List ℕ) (n found : ℕ) → find (nat_lt n) ks ≡ Some found
    → count_above ks found < count_above ks n
count_above-found [] n found is = cc
count_above-found (k ∷ ks) n found is = grind (
  arith,
  nat_tests,
  count_above-found ks n found,
  found_above (k ∷ ks) n found is,
  count_above-mono ks n found,
)

count_above-few : (ks : List ℕ) (n : ℕ) → count_above ks n ≤ length ks
count_above-few [] n = omega arith
count_above-few (k ∷ ks) n = grind (arith, count_above-few ks n)

-- ---- due moves

-- how many cues are above the current one, where there is one
abbrev pub room : Tables → List Move → ℕ
room show [] = 0
room show (move ∷ older) = count_above (map.keys show.cues) move.cue

room-few : (show : Tables) (moves : List Move) → room show moves ≤ length (map.keys show.cues)
room-few show [] = omega arith
room-few show (move ∷ older) = count_above-few (map.keys show.cues) move.cue

-- a due move goes to a greater cue number
room-due : (show : Tables) (moves : List Move) (next : Move) → next_move show moves ≡ Some next
    → room show (next ∷ moves) < room show moves
room-due show [] next is = cc
room-due show (move ∷ older) next is =
    grind (arith, count_above-found (map.keys show.cues) move.cue next.cue)

no_room : (show : Tables) (moves : List Move) → room show moves ≡ 0 → next_move show moves ≡ None
no_room show [] none = refl
no_room show (move ∷ older) none = rw (none_found (map.keys show.cues) move.cue none) refl

-- the next move is due later than this moment, where there is one
abbrev IsLater : Tables → ℕ → List Move → Type 0
IsLater show moment moves = IfSome (next_move show moves) (λ next. moment < next.moment)

module _ (show : Tables) (moment : ℕ) where
  -- a list is as good as another where both are long enough
  same_followed : (few many : List ℕ) (moves : List Move)
      → room show moves ≤ length few → room show moves ≤ length many
      → with_follow_ons show moment few moves ≡ with_follow_ons show moment many moves
  same_followed [] [] moves a b = refl
  same_followed [] (k ∷ many) moves a b = rw (no_room show moves (omega arith)) refl
  same_followed (k ∷ few) [] moves a b = rw (no_room show moves (omega arith)) refl
  same_followed (k ∷ few) (l ∷ many) moves a b =
      grind (arith, room-due show moves, λ (next : Move). same_followed few many (next ∷ moves))

  due_first : (ks : List ℕ) (moves : List Move) (next : Move) → room show moves ≤ length ks
      → next_move show moves ≡ Some next → next.moment ≤ moment
      → with_follow_ons show moment ks moves ≡ with_follow_ons show moment ks (next ∷ moves)
  due_first [] moves next few is le = absurd (omega (arith, room-due show moves next is))
  due_first (k ∷ ks) moves next few is le =
      grind (arith, nat_tests, room-due show moves next, same_followed ks (k ∷ ks) (next ∷ moves))

  -- a due move is the first of those that are made
  pub with_due-due : (moves : List Move) (next : Move) → next_move show moves ≡ Some next
      → next.moment ≤ moment → with_due show moment moves ≡ with_due show moment (next ∷ moves)
  unfolding with_due
  with_due-due moves next is le =
      due_first (map.keys show.cues) moves next (room-few show moves) is le

  none_due : (ks : List ℕ) (moves : List Move) → IsLater show moment moves
      → with_follow_ons show moment ks moves ≡ moves
  none_due [] moves later = refl
  none_due (k ∷ ks) moves later = grind (arith, nat_tests)

  -- where none is due, none is made
  pub with_due-none : (moves : List Move)
      → IfSome (next_move show moves) (λ next. moment < next.moment)
      → with_due show moment moves ≡ moves
  unfolding with_due
  with_due-none moves later = none_due (map.keys show.cues) moves later

  left : (ks : List ℕ) (moves : List Move) → room show moves ≤ length ks
      → IsLater show moment (with_follow_ons show moment ks moves)
  left [] moves few = rw (no_room show moves (omega arith)) tt
  left (k ∷ ks) moves few =
      grind (arith, nat_tests, room-due show moves, λ (next : Move). left ks (next ∷ moves))

  -- after them none is due by the moment
  pub none_left : (moves : List Move)
      → IfSome (next_move show (with_due show moment moves)) (λ next. moment < next.moment)
  unfolding with_due
  none_left moves = left (map.keys show.cues) moves (room-few show moves)

  -- and to make them again makes none
  pub with_due-again : (moves : List Move)
      → with_due show moment (with_due show moment moves) ≡ with_due show moment moves
  with_due-again moves = with_due-none (with_due show moment moves) (none_left moves)
