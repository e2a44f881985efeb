use Rattle.std.proofs.Common.{◌≡◌, ◌+◌, ◌-◌, true, false, ap, arith}
use Rattle.std.specs.Prelude.{nat_lt}
use Rattle.std.proofs.lemmas.Bool.Decides.{nat_tests}
use Rattle.fade_core.specs.Share.{level_between}
use Rattle.fade_core.proofs.share.Shares.level.Goals as goal

pub returns-then-a-b : goal.returns-then-a-b
unfolding level_between
returns-then-a-b c =
    let is : nat_lt c.args.a c.args.b ≡ true = grind (arith, nat_tests) in
    rw is (ap (λ n. c.args.a + n) c.part_of.ensures.part)

pub returns-else-a-b : goal.returns-else-a-b
unfolding level_between
returns-else-a-b c =
    let is : nat_lt c.args.a c.args.b ≡ false = grind (arith, nat_tests) in
    rw is (ap (λ n. c.args.a - n) c.part_of-else-a-b.ensures.part)
