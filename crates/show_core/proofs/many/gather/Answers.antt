use Rattle.show_core.proofs.Terms.{None, sym, ap, ◌∙◌, arith, append-nil, get_or_read}
use Rattle.show_core.proofs.Entries.{filter_none, filter_all, gathered}
use Rattle.show_core.proofs.many.gather.Goals as goal
use Rattle.show_core.proofs.many.gather.Goals.{in-Some+in_ok-push, in_default}

pub loop-key-init : goal.loop-key-init
loop-key-init g c = λ es sorted fit holds.
    c.in_ok-all.ensures.items ∙ sym (filter_none es)

pub loop-key-preserved : goal.loop-key-preserved
loop-key-preserved g c = λ es sorted fit holds.
    let k = c.loop-key.key in
    let so_far = c.loop-key.invariant es sorted fit holds in
    let found = get_or_read c.args.table.now k c.index-table-key.result c.loop-key-test.true
    c.index-table-key.is None ∙ holds k c.loop-key-test.true in
    elim c.match-value.branch [
      | in-Some+in_ok-push w ↦
          gathered es c.loop-key.all.items _ k _ sorted so_far (sym w.in-Some.is ∙ found)
          (ap (λ v. v.items) w.all-is ∙ w.in_ok-push.ensures.items)
      | in_default w ↦
          gathered es c.loop-key.all.items _ k _ sorted so_far (sym w.in_default.is ∙ found)
          (ap (λ v. v.items) w.all-is ∙ sym (append-nil c.loop-key.all.items))
    ]

pub returns : goal.returns
returns g c = λ es sorted fit holds.
    c.loop-key.invariant es sorted fit holds
    ∙ filter_all es c.loop-key.key (λ i d lt. omega (arith, fit i d lt, c.loop-key-test.false))
