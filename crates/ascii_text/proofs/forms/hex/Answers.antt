use Rattle.std.proofs.Common.{arith, sym}
use Rattle.std.proofs.lemmas.Grind.{common_steps}
use Rattle.ascii_text.proofs.Hex.{hex_two}
use Rattle.ascii_text.proofs.forms.hex.Goals as goal

pub returns-in_ok-hex_digit-in-104-2-2 : goal.returns-in_ok-hex_digit-in-104-2-2
returns-in_ok-hex_digit-in-104-2-2 c =
    sym (hex_two c.args.word.now _ _ (omega arith) (grind (arith, common_steps))
    (sym c.in_ok-hex_digit-in-104-2.ensures) (sym c.in_ok-hex_digit-in-104-2-2.ensures))
