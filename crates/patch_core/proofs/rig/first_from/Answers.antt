use Rattle.patch_core.proofs.Terms.{rules, of_calls, ltb, arith, nat_tests, always_returns_same}
use Rattle.patch_core.proofs.Terms.{IsPartitionedBy-ltb}
use Rattle.patch_core.proofs.Frames.{rising}
use Rattle.patch_core.proofs.rig.first_from.Goals as goal

pub returns : goal.returns
returns c =
    let parted = IsPartitionedBy-ltb (λ e. e.0) c.args.dimmers.now c.args.dimmer
    (rising c.args.dimmers.now c.requires) in
    let point = c.partition_point.ensures.partitioned (λ e. ltb e.0 c.args.dimmer)
    (always_returns_same _ _ _ (λ a r f k. search (rules, of_calls))) parted in
    record {
      range = search rules;
      below = λ k d low h. grind (arith, nat_tests, point.0 k d low h);
      from_on = λ k d low h. grind (arith, nat_tests, point.1 k d low h);
    }
