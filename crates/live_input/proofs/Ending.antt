-- What is given at the end of a night.
use Rattle.live_input.proofs.Terms.{◌≡◌, ℕ, suc, ◌+◌, Bool, true, false, refl, ap, arith, List, ◌∷◌}
use Rattle.live_input.proofs.Terms.{Option, Some, None, codes, nat_tests, Stage, On, Dark, Ended}
use Rattle.live_input.proofs.Terms.{IsEnding, was_left, words_given, Happening, answers, close, dim}
use Rattle.live_input.proofs.Terms.{is_light_down, is_on, is_through, stage, stage_by, tick}
use Rattle.live_input.proofs.Terms.{without_keys}
use Rattle.live_input.proofs.Cases.{Keeps, closes, darkens, dims, leaves, takes, through, ticks}

-- before `end` nobody left
abbrev IsCalm : Stage → Bool → Type 0
IsCalm (Ended count) left = Unit {0}
IsCalm _ left = left ≡ false

abbrev Ends : Stage → Bool → List (List ℕ) → Type 0
Ends s left given = IsEnding s left given × IsCalm s left

more : (count : ℕ) → count + 1 ≡ suc count
more count = omega arith

one_tick : (n : ℕ) (s : Stage) (left : Bool) (given : List (List ℕ)) → is_light_down s ≡ false
    → is_through s ≡ false → Ends s left given
    → Ends (stage_by (tick n) s) left (codes "tick" ∷ given)
one_tick n On left given light on e = (tt, e.1)
one_tick n (Dark count) left given light on e = (
  (
    grind (arith, nat_tests, light),
    rw (more count) (e.0.1.0, ap (λ ws. codes "tick" ∷ ws) e.0.1.1),
  ),
  e.1,
)
one_tick n (Ended count) true given light on e = (
  (grind (arith, nat_tests, on), rw (more count) (e.0.1.0, ap (λ ws. codes "tick" ∷ ws) e.0.1.1)),
  tt,
)
one_tick n (Ended count) false given light on e = (
  (grind (arith, nat_tests, on), rw (more count) (e.0.1.0, ap (λ ws. codes "tick" ∷ ws) e.0.1.1)),
  tt,
)

one_dim : (n : ℕ) (typed : Option (List ℕ)) (s : Stage) (left : Bool) (given : List (List ℕ))
    → is_on s ≡ true → Ends s left given
    → Ends (stage_by (dim n typed) s) left (codes "master 0" ∷ given)
one_dim n typed On left given on e = ((omega arith, (given, refl)), e.1)
one_dim n typed s left given on e = cc

one_close : (n : ℕ) (s : Stage) (left : Bool) (given : List (List ℕ)) → is_light_down s ≡ true
    → Ends s left given → Ends (stage_by (close n None) s) left (codes "end" ∷ given)
one_close n (Dark count) left given dark e =
    let four : count ≡ 4 = grind (arith, nat_tests, dark, e.0.0) in
    let last = rw four at e.0.1.1 in
    rw e.1 ((omega arith, (e.0.1.0, ap (λ ws. codes "end" ∷ ws) last)), tt)
one_close n s left given dark e = cc

one_leave : (n : ℕ) (line : List ℕ) (s : Stage) (given : List (List ℕ)) → is_on s ≡ true
    → Ends (stage_by (close n (Some line)) s) true (codes "end" ∷ given)
one_leave n line On given on = ((omega arith, (given, refl)), tt)
one_leave n line s given on = cc

one_order : (s : Stage) (left : Bool) (line : List ℕ) (given : List (List ℕ)) → is_on s ≡ true
    → Ends s left given → Ends s left (line ∷ given)
one_order On left line given on e = (tt, e.1)
one_order s left line given on e = cc

ending_by : Keeps (λ given n. Ends (stage given) (was_left given) (words_given given))
ending_by h n _ (takes line later is on _ _ _ _) le below e =
    one_order (stage (answers h)) _ (without_keys line) _ on.0 e
ending_by h n _ (darkens line later is on) le below e =
    one_dim n (Some line) (stage (answers h)) _ _ on.0 e
ending_by h n _ (dims on owed) le below e = one_dim n None (stage (answers h)) _ _ on.0 e
ending_by h n _ (leaves line later is on) le below e =
    one_leave n line (stage (answers h)) _ on.0
ending_by h n _ (closes dark) le below e = one_close n (stage (answers h)) _ _ dark e
ending_by h n _ (ticks on light late) le below e =
    one_tick n (stage (answers h)) _ _ light on e
ending_by h n _ _ le below e = e

pub ends_whole : (h : List Happening)
    → IsEnding (stage (answers h)) (was_left (answers h)) (words_given (answers h))
ends_whole h = (through (λ given n. Ends (stage given) (was_left given) (words_given given))
    (tt, refl) ending_by h).0
