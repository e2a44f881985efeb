use Rattle.master_core.proofs.Terms.{◌≡◌, ℕ, ◌-◌, ◌+◌, ◌<◌, IsTrue, get_or, sym, subst, ap, ◌∙◌, arith}
use Rattle.master_core.proofs.Terms.{get_or-replicate, is_sub, is_group, masters_view, merged_after}
use Rattle.master_core.proofs.Terms.{StandsFor, sub_after, group_after}
use Rattle.master_core.proofs.Greatest.{highest_is}
use Rattle.master_core.proofs.Raised.{in_place}
use Rattle.master_core.proofs.masters.Masters.write_floors.Goals as goal

pub returns-clause-levels : goal.returns-clause-levels
returns-clause-levels c = λ settings stands channel is.
    let range = in_place channel is in
    let place : ℕ = channel - 1 in
    let next : place + 1 ≡ channel = omega (arith, range.0) in
    let lt : place < 4096 = omega (arith, range.0, range.1) in
    let own : StandsFor (masters_view c.self.inside) settings =
    subst (λ m. StandsFor m settings) (sym c.self.view_is) stands in
    let dark : get_or c.fill.new.self place 0 ≡ 0 =
    ap (λ xs. get_or xs place 0) (c.fill.ensures.after (λ y e. e))
    ∙ get_or-replicate _ place 0 0 (omega (arith, c.requires)) in
    let sub = highest_is (λ n. IsTrue (is_sub n)) c.args.show.now.subs c.subs.result.now
    c.subs.ensures.entries c.subs.ensures.range c.self.inside.subs (sub_after settings) (place + 1)
    own.subs_are in
    let group = highest_is (λ n. IsTrue (is_group n)) c.args.show.now.groups c.groups.result.now
    c.groups.ensures.entries c.groups.ensures.range c.self.inside.groups (group_after settings)
    (place + 1) own.groups_are in
    let first = c.raise.ensures.raised place (omega arith) in
    let second = c.raise-2.ensures.raised place (omega arith) in
    subst (λ n. get_or c.raise-2.new.floors place 0 ≡ merged_after c.args.show.now settings n 0)
    next (omega (arith, dark, sub, group, first, second))
