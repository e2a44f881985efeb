-- Cards that are told one by one.
use Rattle.std.proofs.Common.{◌≡◌, ◌≢◌, ◌∙◌, ◌++◌, ◌∷◌, ◌+◌, ◌<◌, ◌≤◌, ℕ, List, [], ap, arith}
use Rattle.std.proofs.Common.{flat_map, get_or, length, length-take, refl, sym, take}
use Rattle.std.proofs.lemmas.Bool.Decides.{nat_tests}
use Rattle.std.proofs.lemmas.Grind.{flat_map-append}
use Rattle.std.proofs.lemmas.List.{take_more}
use Rattle.std.proofs.lemmas.List.Elements.{filter_map-append}
use Rattle.std.specs.Prelude.{Option, Some, None, codes, option_to_list}
use Rattle.std.specs.List.{cons_option, filter_map}
use Rattle.network_tables.specs.declared.table.Card.{Card}
use Rattle.remarks.specs.Cards.{choice_text, front_behind, listed_behind, unknown_parts}
use Rattle.remarks.specs.Remarks.{excerpt, remark_of}
use Rattle.remarks.proofs.Cuts.{cut_more}

-- two cards or more are down
pub many_down : (count : ℕ) (address names : List ℕ) → count ≢ 0 → count ≢ 1
    → unknown_parts count address names
    ≡ codes "no card that is up is known to have " ∷ address ∷ codes ": " ∷ names
    ∷ codes " are down; ip link set NAME up; " ∷ []
many_down count address names not_none not_one = grind (arith, nat_tests)

-- a remark has 512 bytes at most
pub remark_room : (parts : List (List ℕ)) → length (remark_of parts) ≤ 512
unfolding remark_of
remark_room parts = omega (arith, length-take 512 (flat_map excerpt parts))

-- a remark with more parts
pub remark_more : (parts more : List (List ℕ))
    → take 512 (remark_of parts ++ flat_map excerpt more) ≡ remark_of (parts ++ more)
unfolding remark_of
remark_more parts more =
    cut_more 512 (flat_map excerpt parts) (flat_map excerpt more)
    ∙ ap (take 512) (sym (flat_map-append excerpt parts more))

-- more texts behind others
behind : (front : List ℕ) (texts more : List (List ℕ)) → listed_behind front (texts ++ more)
    ≡ listed_behind front texts ++ listed_behind (front_behind front texts) more
behind front [] more = refl
behind front (text ∷ []) more = refl
behind front (text ∷ (next ∷ texts)) more =
    ap (λ l. front ∷ text ∷ l) (behind (codes ", ") (next ∷ texts) more)

-- the cards that were seen, and one more
pub more_cards : (cards : List Card) (i : ℕ) (d : Card) → i < length cards
    → filter_map choice_text (take i cards) ++ option_to_list (choice_text (get_or cards i d))
    ≡ filter_map choice_text (take (i + 1) cards)
more_cards cards i d within =
    ap (λ l. filter_map choice_text (take i cards) ++ l) (one (choice_text (get_or cards i d)))
    ∙ sym (filter_map-append choice_text (take i cards) (get_or cards i d ∷ []))
    ∙ ap (filter_map choice_text) (sym (take_more cards i d within))
  where
    one : (text : Option (List ℕ)) → option_to_list text ≡ cons_option text []
    one None = refl
    one (Some text) = refl

-- what is told of one more
pub told_more : (texts more : List (List ℕ))
    → flat_map excerpt (listed_behind (codes "there are ") texts)
    ++ flat_map excerpt (listed_behind (front_behind (codes "there are ") texts) more)
    ≡ flat_map excerpt (listed_behind (codes "there are ") (texts ++ more))
told_more texts more =
    let front : List ℕ = codes "there are " in
    sym (flat_map-append excerpt (listed_behind front texts)
    (listed_behind (front_behind front texts) more))
    ∙ ap (flat_map excerpt) (sym (behind front texts more))

-- what stands before the next one
pub next_front : (front : List ℕ) (texts more : List (List ℕ))
    → front_behind (front_behind front texts) more ≡ front_behind front (texts ++ more)
next_front front [] more = refl
next_front front (text ∷ texts) [] = refl
next_front front (text ∷ texts) (next ∷ more) = refl
