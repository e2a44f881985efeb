use Rattle.std.proofs.Common.{◌<◌, false, get_or, refl, ◌∙◌, arith}
use Rattle.std.proofs.lemmas.Bool.{agree_below_at}
use Rattle.ascii_text.specs.Text.{is_word_end}
use Rattle.ascii_text.specs.declared.scan.TheConstants.{WORD_ENDS}
use Rattle.ascii_text.proofs.scan.is_word_end.Goals as goal

-- the table answers as the definition does, byte for byte
pub returns : goal.returns
returns c = let byte : c.args.byte < 256 = omega arith in c.entry.ensures
    ∙ agree_below_at (λ b. get_or WORD_ENDS b false) is_word_end 256 c.args.byte refl byte
