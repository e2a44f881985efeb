-- A play begins, or not.
use Rattle.cmd_play.proofs.Terms.{◌≡◌, ◌↔◌, ℕ, List, refl, Bool, true, false, Result, Ok, Err, None}
use Rattle.cmd_play.proofs.Terms.{IsTrue, IsFalse, is_base, RigFault, Universe, Tables, desk_limits}
use Rattle.cmd_play.proofs.Terms.{text_fault, IsShowOf, statements_of, OfItsShow, of_its_show}

-- a console that was opened has numbers for its universes
pub is_based : {X : Type 0} (b : Bool) (r : Result X RigFault) (x : X) → r ≡ Ok x
    → (r ≡ Err Universe) ↔ IsFalse b → IsTrue b
is_based true r x is iff = refl
is_based false r x is iff = let e : r ≡ Err Universe = iff.1 refl in cc

-- a play begins where its console was opened
pub began : {X : Type 0} (show : List ℕ) (base : ℕ) (s : Tables) (r : Result X RigFault) (x : X)
    → text_fault desk_limits show ≡ None → IsShowOf (statements_of desk_limits show) s → r ≡ Ok x
    → (r ≡ Err Universe) ↔ IsFalse (is_base s.patch base)
    → (text_fault desk_limits show ≡ None) × OfItsShow show (λ t. IsTrue (is_base t.patch base))
began show base s r x faultless is opened iff = (
  faultless,
  of_its_show show (λ t. IsTrue (is_base t.patch base)) s is
      (is_based (is_base s.patch base) r x opened iff),
)

-- what follows for any show from what holds of it follows for the show of a text
pub of_each : (show : List ℕ) (P Q : Tables → Type 0) → OfItsShow show P
    → ((s : Tables) → P s → Q s) → OfItsShow show Q
of_each show P Q h step = (h.0, λ s is. step s (h.1 s is))
