use Rattle.show_core.proofs.Terms.{◌≡◌, arith, sym, subst, None, IsSome, length, ◌∙◌, find, insert_end}
use Rattle.show_core.proofs.Sorted.{not_so, put_at, put_gap, find_gap}
use Rattle.show_core.proofs.place.put.Goals as goal

pub returns-in-Ok-clause-ok : goal.returns-in-Ok-clause-ok
returns-in-Ok-clause-ok g c =
    let at = put_at g.K.Ord.cmp g.met.K.Ord.total c.deref.result.now c.args.key c.args.value
    c.in-Ok.at c.index_mut.result.now c.in-Ok.ensures.found in
    let here = rw c.deref.ensures.value at at in
    let old = c.index_mut.ensures in
    grind (arith, here)

pub returns-in_ok-push-in-Err-clause-ok : goal.returns-in_ok-push-in-Err-clause-ok
returns-in_ok-push-in-Err-clause-ok g c =
    let gap = put_gap g.K.Ord.cmp g.met.K.Ord.total c.deref.result.now c.args.key c.args.value
    c.in-Err.at c.in-Err.ensures.absent in
    let end : c.in-Err.at ≡ length c.args.entries.now.items = omega arith in
    c.in_ok-push-in-Err.ensures.items
    ∙ sym (rw c.deref.ensures.value at gap
    ∙ rw end (insert_end c.args.entries.now.items (c.args.key, c.args.value)))

pub returns-in_ok-insert-in-Err-2-clause-ok : goal.returns-in_ok-insert-in-Err-2-clause-ok
returns-in_ok-insert-in-Err-2-clause-ok g c =
    let at = put_gap g.K.Ord.cmp g.met.K.Ord.total c.deref.result.now c.args.key c.args.value
    c.in-Err.at c.in-Err.ensures.absent in
    c.in_ok-insert-in-Err-2.ensures.items ∙ sym (rw c.deref.ensures.value at at)

pub returns-in_err-push-in-Err-clause-sure : goal.returns-in_err-push-in-Err-clause-sure
returns-in_err-push-in-Err-clause-sure g c =
    let none : find g.K.Ord.cmp c.args.key c.args.entries.now.items ≡ None =
    find_gap g.K.Ord.cmp g.met.K.Ord.total c.args.entries.now.items c.args.key c.in-Err.at
    (rw c.deref.ensures.value at c.in-Err.ensures.absent) in
    λ some. not_so (subst IsSome none some)

pub returns-in_err-insert-in-Err-2-clause-sure : goal.returns-in_err-insert-in-Err-2-clause-sure
returns-in_err-insert-in-Err-2-clause-sure g c =
    let none : find g.K.Ord.cmp c.args.key c.args.entries.now.items ≡ None =
    find_gap g.K.Ord.cmp g.met.K.Ord.total c.args.entries.now.items c.args.key c.in-Err.at
    (rw c.deref.ensures.value at c.in-Err.ensures.absent) in
    λ some. not_so (subst IsSome none some)
