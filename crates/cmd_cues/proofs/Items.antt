-- Texts one after the other: the parts of a line, lines, and the items of an array.
use Rattle.cmd_cues.proofs.Terms.{◌≡◌, ℕ, ◌+◌, ◌<◌, ◌≤◌, ◌==◌, List, [], ◌∷◌, ◌++◌, length, get_or}
use Rattle.cmd_cues.proofs.Terms.{suc, false, cond, nat_eq, take, ap, sym, ◌∙◌, arith, append_assoc}
use Rattle.cmd_cues.proofs.Terms.{length-take, if◌then◌else◌, nat_tests, flat_map-append}
use Rattle.cmd_cues.proofs.Terms.{append-nil, take_all, take_more, array_text, items_text}
use Rattle.std.specs.Prelude.{codes, flat_map}

regroup : (a b c d : List ℕ) → ((a ++ b) ++ c) ++ d ≡ a ++ ((b ++ c) ++ d)
regroup a b c d = ap (λ t. t ++ d) (append_assoc a b c) ∙ append_assoc a (b ++ c) d

-- a text behind texts that stand behind what was there
pub behind : (old front before part text : List ℕ) → before ≡ old ++ front → text ≡ before ++ part
    → text ≡ old ++ (front ++ part)
behind old front before part text so_far added =
    added ∙ ap (λ t. t ++ part) so_far ∙ append_assoc old front part

module _ {X : Type 0} (value : X → List ℕ) where
  -- what stands before an item, by its place
  abbrev pub break_at : ℕ → List ℕ
  break_at place = if place == 0 then codes "\n" else codes ",\n"

  items_push : (ys : List X) (y : X)
      → items_text value (ys ++ y ∷ [])
      ≡ (items_text value ys ++ break_at (length ys)) ++ value y
  items_push [] y = append-nil (codes "\n" ++ value y)
  items_push (x ∷ ys) y =
      let separate : X → List ℕ = λ z. codes ",\n" ++ value z in
      let before : List ℕ = (codes "\n" ++ value x) ++ flat_map separate ys in
      let more : flat_map separate (ys ++ y ∷ []) ≡ flat_map separate ys ++ separate y =
      flat_map-append separate ys (y ∷ [])
      ∙ ap (λ t. flat_map separate ys ++ t) (append-nil (separate y)) in
      let later : nat_eq (suc (length ys)) 0 ≡ false = grind (arith, nat_tests) in
      ap (λ t. (codes "\n" ++ value x) ++ t) more
      ∙ sym (append_assoc (codes "\n" ++ value x) (flat_map separate ys) (separate y))
      ∙ sym (append_assoc before (codes ",\n") (value y))
      ∙ ap (λ b. (before ++ cond b (codes "\n") (codes ",\n")) ++ value y) (sym later)

  -- one item more
  pub items_more : (xs : List X) (i : ℕ) (d : X) → i < length xs
      → items_text value (take (i + 1) xs)
      ≡ (items_text value (take i xs) ++ break_at i) ++ value (get_or xs i d)
  items_more xs i d lt =
      let is : length (take i xs) ≡ i = omega (arith, length-take i xs) in
      ap (items_text value) (take_more xs i d lt) ∙ items_push (take i xs) (get_or xs i d)
      ∙ ap (λ n. (items_text value (take i xs) ++ break_at n) ++ value (get_or xs i d)) is

  -- an item that is appended behind what stands before it
  pub next_item : (xs : List X) (i : ℕ) (d : X) → i < length xs
      → (front before between text item : List ℕ)
      → before ≡ front ++ items_text value (take i xs) → between ≡ before ++ break_at i
      → text ≡ between ++ item → item ≡ value (get_or xs i d)
      → text ≡ front ++ items_text value (take (i + 1) xs)
  next_item xs i d lt front before between text item so_far broken added is =
      let items : List ℕ = items_text value (take i xs) in
      added ∙ ap (λ t. t ++ item) (broken ∙ ap (λ t. t ++ break_at i) so_far)
      ∙ ap (λ v. ((front ++ items) ++ break_at i) ++ v) is
      ∙ regroup front items (break_at i) (value (get_or xs i d))
      ∙ ap (λ t. front ++ t) (sym (items_more xs i d lt))

  -- the array behind the last item
  pub all_items : (xs : List X) (i : ℕ) → length xs ≤ i → (old text : List ℕ)
      → text ≡ ((old ++ codes "[") ++ items_text value (take i xs)) ++ codes "]"
      → text ≡ old ++ array_text value xs
  all_items xs i past old text is =
      is
      ∙ ap (λ ys. ((old ++ codes "[") ++ items_text value ys) ++ codes "]") (take_all i xs past)
      ∙ regroup old (codes "[") (items_text value xs) (codes "]")

  -- a line that is appended
  pub next_line : (xs : List X) (i : ℕ) (d : X) → i < length xs → (front before text line : List ℕ)
      → before ≡ front ++ flat_map value (take i xs) → text ≡ before ++ line
      → line ≡ value (get_or xs i d) → text ≡ front ++ flat_map value (take (i + 1) xs)
  next_line xs i d lt front before text line so_far added is =
      let lines : List ℕ = flat_map value (take i xs) in
      let more : flat_map value (take (i + 1) xs) ≡ lines ++ value (get_or xs i d) =
      ap (flat_map value) (take_more xs i d lt)
      ∙ flat_map-append value (take i xs) (get_or xs i d ∷ [])
      ∙ ap (λ t. lines ++ t) (append-nil (value (get_or xs i d))) in
      added ∙ ap (λ t. t ++ line) so_far ∙ ap (λ v. (front ++ lines) ++ v) is
      ∙ append_assoc front lines (value (get_or xs i d)) ∙ ap (λ t. front ++ t) (sym more)
