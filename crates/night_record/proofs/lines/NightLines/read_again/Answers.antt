use Rattle.std.proofs.Common.{arith}
use Rattle.std.proofs.lemmas.Bool.Decides.{nat_tests}
use Rattle.night_record.proofs.Coming.{keeps_long, keeps_whole}
use Rattle.night_record.proofs.lines.NightLines.read_again.Goals as goal

pub returns-then-is_full-clause-keeps : goal.returns-then-is_full-clause-keeps
returns-then-is_full-clause-keeps c =
    keeps_long c.args.self.now _ c.requires c.begin_block.ensures.keeps
    (let e = c.is_full.ensures.value in let f = c.if-is_full.true in grind (arith, nat_tests))

pub returns-else-is_full-clause-keeps : goal.returns-else-is_full-clause-keeps
returns-else-is_full-clause-keeps c =
    keeps_whole c.args.self.now _ c.requires c.forget_line.ensures.whole
    (let e = c.is_full.ensures.value in let f = c.if-is_full.false in
    let g = c.is_full.ensures.fits in grind (arith, nat_tests))
