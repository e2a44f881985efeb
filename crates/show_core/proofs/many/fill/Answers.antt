use Rattle.show_core.proofs.Terms.{◌+◌, ◌<◌, length, arith, take, Some, take_all}
use Rattle.show_core.proofs.Entries.{table_set, read_of, find_more}
use Rattle.show_core.proofs.many.fill.Goals as goal

pub loop-entry-preserved : goal.loop-entry-preserved
loop-entry-preserved g c =
    let es = c.args.entries.now in
    let i = c.loop-entry.entry-index in
    let p = c.entry-item.result in
    let lt = c.loop-entry-test.true in
    let here =
    read_of (λ e. e.0 < length c.args.table.now) es i p c.requires.fit lt c.entry-item.is in
    let fits : p.0 < length c.loop-entry.table =
    omega (arith, here, c.loop-entry.auto.table) in
    rw c.from.ensures
    (table_set c.loop-entry.table (take i es) (take (i + 1) es) p.0 (Some p.1)
    c.loop-entry.invariant fits (find_more es i p c.requires.sorted lt c.entry-item.is))

pub loop-entry-init : goal.loop-entry-init
loop-entry-init _ c = c.requires.none

pub bounds-table-from : goal.bounds-table-from
bounds-table-from g c =
    let here =
    read_of (λ e. e.0 < length c.args.table.now) c.args.entries.now c.loop-entry.entry-index
    c.entry-item.result c.requires.fit c.loop-entry-test.true c.entry-item.is in
    omega (arith, here, c.from.ensures, c.loop-entry.auto.table)

pub returns : goal.returns
returns g c =
    rw (← take_all c.loop-entry.entry-index c.args.entries.now c.loop-entry-test.false)
    c.loop-entry.invariant
