-- Two hex digits.
use Rattle.std.proofs.Common.{◌≡◌, ℕ, ◌+◌, ◌*◌, List, [], ◌∷◌, length, get_or, ap, arith, Some}
use Rattle.std.proofs.lemmas.Option.{cond_some}
use Rattle.std.specs.Char.{to_ascii_lowercase}
use Rattle.ascii_text.specs.Forms.{hex_of, hex_digit_of}

-- H and two hex digits spell a byte
pub hex_two : (w : List ℕ) (x y : ℕ) → length w ≡ 3 → to_ascii_lowercase (get_or w 0 0) ≡ 104
    → hex_digit_of (get_or w 1 0) ≡ Some x → hex_digit_of (get_or w 2 0) ≡ Some y
    → hex_of w ≡ Some (x * 16 + y)
hex_two [] x y e h a b = absurd (omega arith)
hex_two (g ∷ []) x y e h a b = absurd (omega arith)
hex_two (g ∷ p ∷ []) x y e h a b = absurd (omega arith)
hex_two (g ∷ p ∷ q ∷ []) x y e h a b =
    let m = cond_some _ _ _ a in let n = cond_some _ _ _ b in
    rw (h, m.0, n.0) (ap Some (omega (arith, m.1, n.1)))
hex_two (g ∷ p ∷ q ∷ r ∷ w) x y e h a b = absurd (omega arith)
