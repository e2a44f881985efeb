use Rattle.std.proofs.Common.{◌≡◌, List, [], ℕ, ◌∙◌, sym, ap}
use Rattle.std.specs.Prelude.{Some, Option, is_some, unwrap_or}
use Rattle.std.proofs.lemmas.Bool.{true≢false}
use Rattle.cmd_rehearse.specs.Forms.{hex_bytes}
use Rattle.cmd_rehearse.proofs.Hex.{spelled, not_spelled}
use Rattle.cmd_rehearse.proofs.hex_bytes.HexBytes.new.Goals as goal

pub invariant_of-result : goal.invariant_of-result
invariant_of-result c =
    let h = c.is_hex.ensures.0 c.if-is_hex.true in
    ap is_some (spelled c.args.digits.now h.0 h.1).1

there : (o : Option (List ℕ)) (bytes : List ℕ) → o ≡ Some bytes → Some (unwrap_or o []) ≡ o
there o bytes is = ap (λ (p : Option (List ℕ)). Some (unwrap_or p [])) is ∙ sym is

pub returns-then-is_hex : goal.returns-then-is_hex
returns-then-is_hex c =
    let h = c.is_hex.ensures.0 c.if-is_hex.true in
    let r = spelled c.args.digits.now h.0 h.1 in
    there (hex_bytes c.args.digits.now) r.0 r.1

pub returns-else-is_hex : goal.returns-else-is_hex
returns-else-is_hex c = not_spelled c.args.digits.now (λ even digits.
    true≢false (sym (c.is_hex.ensures.1 (even, digits)) ∙ c.if-is_hex.false))
