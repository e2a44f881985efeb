use Rattle.show_core.proofs.Terms.{◌<◌, length, arith, take, Some, None, cond, take_all, with_entries}
use Rattle.show_core.proofs.Entries.{table_set, read_of, find_with_entry, with_entries-more}
use Rattle.show_core.proofs.many.overwrite.Goals as goal

pub loop-entry-preserved : goal.loop-entry-preserved
loop-entry-preserved g c = λ es holds.
    let stays = g.V.Kept.stays in
    let ps = c.args.new.now in
    let i = c.loop-entry.entry-index in
    let p = c.entry-item.result in
    let lt = c.loop-entry-test.true in
    let here =
    read_of (λ e. e.0 < length c.args.table.now) ps i p c.requires lt c.entry-item.is in
    let fits : p.0 < length c.loop-entry.table = omega (arith, here, c.loop-entry.auto.table) in
    let before = with_entries stays es (take i ps) in
    rw (c.from.ensures, c.table_value.ensures, with_entries-more stays es ps i p lt c.entry-item.is)
    (table_set c.loop-entry.table before _ p.0 (cond (stays p.1) (Some p.1) None)
    (c.loop-entry.invariant es holds) fits (find_with_entry stays before p))

pub returns : goal.returns
returns g c = λ es holds.
    rw (← take_all c.loop-entry.entry-index c.args.new.now c.loop-entry-test.false)
    (c.loop-entry.invariant es holds)

pub loop-entry-init : goal.loop-entry-init
loop-entry-init _ _ = λ _ holds. holds

pub bounds-table-from : goal.bounds-table-from
bounds-table-from g c =
    let here =
    read_of (λ e. e.0 < length c.args.table.now) c.args.new.now c.loop-entry.entry-index
    c.entry-item.result c.requires c.loop-entry-test.true c.entry-item.is in
    omega (arith, here, c.from.ensures, c.loop-entry.auto.table)
