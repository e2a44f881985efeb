-- What a line asks for, and what that says of the line.
use Rattle.live_input.proofs.Terms.{◌≡◌, ◌≤◌, ℕ, Bool, true, false, refl, List, length, Option}
use Rattle.live_input.proofs.Terms.{Some, None, codes, nat_le, cond_both, leb-true, words_of}
use Rattle.live_input.proofs.Terms.{Instruction, Plain, End, instruction_of, Request, Leave, Finish, Order}
use Rattle.live_input.proofs.Terms.{without_keys, asks_help, behind_moment, instruction_asked, is_only}
use Rattle.live_input.proofs.Terms.{order_asked, request_of, words_asked}

abbrev pub is_end : Instruction → Bool
is_end (Plain End) = true
is_end _ = false

-- instructions are asked for where the night is on, and as they are spelled
abbrev pub Meets : Bool → ℕ → List ℕ → Request → Type 0
Meets on n line Leave = on ≡ true
Meets on n line Finish = on ≡ true
Meets on n line (Order instruction) =
    (on ≡ true) × (length (behind_moment n line) ≤ 200)
    × (instruction_of (words_of (without_keys line)) ≡ Some instruction) × (is_end instruction ≡ false)
Meets on n line _ = Unit {0}

module _ (on : Bool) (n : ℕ) (line : List ℕ) where
  instruction_meets : on ≡ true → length (behind_moment n line) ≤ 200 → (spelled : Option Instruction)
      → instruction_of (words_of (without_keys line)) ≡ spelled
      → Meets on n line (instruction_asked (words_of (without_keys line)) spelled)
  instruction_meets is fit None e = tt
  instruction_meets is fit (Some (Plain End)) e = is
  instruction_meets is fit (Some c) e = (is, fit, e, refl)

  order_meets : on ≡ true → length (behind_moment n line) ≤ 200
      → Meets on n line (order_asked (words_of (without_keys line)))
  order_meets is fit = cond_both (is_only (codes "leave") (words_of (without_keys line))) _ _
      (Meets on n line) (λ e. is) (λ e. instruction_meets is fit _ refl)

  words_meet : length (behind_moment n line) ≤ 200
      → Meets on n line (words_asked on (words_of (without_keys line)))
  words_meet fit = cond_both (is_only (codes "where") (words_of (without_keys line))) _ _
      (Meets on n line) (λ e. tt)
      (λ e. cond_both (asks_help (words_of (without_keys line))) _ _ (Meets on n line) (λ e. tt)
      (λ e. cond_both on _ _ (Meets on n line) (λ is. order_meets is fit) (λ e. tt)))

  pub request_meets : Meets on n line (request_of on n line)
  request_meets = cond_both (nat_le (length (behind_moment n line)) 200) _ _ (Meets on n line)
      (λ fit. words_meet (leb-true _ 200 fit)) (λ long. tt)
