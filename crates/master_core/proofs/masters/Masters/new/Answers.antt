use Rattle.master_core.proofs.Terms.{refl, arith, nat_tests, get_or-replicate}
use Rattle.master_core.proofs.masters.Masters.new.Goals as goal

pub returns : goal.returns
returns c = record {
  subs_are = λ n is. get_or-replicate 101 n 0 0 (grind (arith, nat_tests));
  groups_are = λ n is. get_or-replicate 501 n 0 0 (grind (arith, nat_tests));
  grand_is = refl;
}
