use Rattle.patch_core.proofs.Terms.{rules, IsNonDecreasingBy-from_sort_by_key}
use Rattle.patch_core.proofs.index.sorted_by_channel.Goals as goal

pub returns-clause-rising : goal.returns-clause-rising
returns-clause-rising c = IsNonDecreasingBy-from_sort_by_key (λ e. e.1.0) _
    c.sort_unstable_by_key.ensures.sorted (λ a r f k. search rules)
