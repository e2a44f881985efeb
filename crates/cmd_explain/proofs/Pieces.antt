-- A text that is written piece by piece.
use Rattle.cmd_explain.proofs.Terms.{◌≡◌, ◌∙◌, ◌++◌, List, ℕ, ap, append_assoc}

-- what was there and one piece, and then one more
pub joins : (old a b : List ℕ) {x y : List ℕ} → x ≡ old ++ a → y ≡ x ++ b → y ≡ old ++ (a ++ b)
joins old a b first next = next ∙ ap (λ t. t ++ b) first ∙ append_assoc old a b
