use Rattle.show_core.proofs.Terms.{◌≤◌, arith, common_steps}
use Rattle.std.specs.FinMap as map
use Rattle.show_core.proofs.Ranges.{len_fits}
use Rattle.show_core.proofs.show.Show.counts.Goals as goal

pub overflow_cast-result-2 : goal.overflow_cast-result-2
overflow_cast-result-2 c =
    let few : map.len c.self.inside.subs ≤ 100 =
    len_fits 100 c.self.inside.subs c.self.invariant.subs_in in
    grind (arith, common_steps, few)

pub overflow_cast-result-3 : goal.overflow_cast-result-3
overflow_cast-result-3 c =
    let few : map.len c.self.inside.groups ≤ 500 =
    len_fits 500 c.self.inside.groups c.self.invariant.groups_in in
    grind (arith, common_steps, few)

pub overflow_cast-result-4 : goal.overflow_cast-result-4
overflow_cast-result-4 c =
    let few : map.len c.self.inside.patch ≤ 8192 =
    len_fits 8192 c.self.inside.patch c.self.invariant.dimmers_in in
    grind (arith, common_steps, few)
