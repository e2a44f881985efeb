use Rattle.show_core.proofs.Terms.{rules, of_calls, ltb, arith, nat_tests, always_returns_same}
use Rattle.show_core.proofs.Terms.{IsPartitionedBy-ltb, ordinal_of}
use Rattle.show_core.proofs.Ordinals.{ordinals_rise}
use Rattle.show_core.proofs.patch_table.first_in.Goals as goal

pub returns : goal.returns
returns c =
    let parted = IsPartitionedBy-ltb (λ e. ordinal_of e.0) c.args.entries.now c.args.ordinal
    (ordinals_rise c.args.entries.now c.requires) in
    let point = c.partition_point.ensures.partitioned (λ e. ltb (ordinal_of e.0) c.args.ordinal)
    (always_returns_same _ _ _ (λ a r f k. search (rules, of_calls))) parted in
    record {
      below = λ k d low h. grind (arith, nat_tests, point.0 k d low h);
      from_on = λ k d low h. grind (arith, nat_tests, point.1 k d low h);
    }
