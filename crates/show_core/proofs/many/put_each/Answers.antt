use Rattle.show_core.proofs.Terms.{◌+◌, true, false, refl, drop, sym, ap, ◌∙◌, arith, nat_cmp}
use Rattle.show_core.proofs.Terms.{nat_cmp_total}
use Rattle.show_core.proofs.Sorted.{not_so, sorted_put}
use Rattle.show_core.proofs.Removed.{sorted_without}
use Rattle.show_core.proofs.Entries.{next_of, with_next, count_next}
use Rattle.show_core.proofs.many.put_each.Goals as goal
use Rattle.show_core.proofs.many.put_each.Goals.{then-stays+in_ok-put, else-stays}
use Rattle.show_core.proofs.many.put_each.Goals.{After-from_residual-in_err-put}
use Rattle.show_core.proofs.many.put_each.Given.{Over}

pub loop-entry-preserved : goal.loop-entry-preserved
loop-entry-preserved g c =
    let stays = g.V.Kept.stays in
    let es = c.loop-entry.entries.items in
    let ps = c.args.new.now in
    let p = c.entry-item.result in
    let rest = drop (c.loop-entry.entry-index + 1) ps in
    let more = next_of ps c.loop-entry.entry-index p c.loop-entry-test.true c.entry-item.is in
    let invariant = c.loop-entry.invariant in
    elim c.if-stays.branch [
      | then-stays+in_ok-put w ↦
          let says = sym c.stays.ensures ∙ w.if-stays.true in
          let is = ap (λ v. v.items) w.entries-is ∙ w.in_ok-put.ensures.ok in
          record {
            sorted = rw is (sorted_put nat_cmp nat_cmp_total es invariant.sorted p.0 p.1);
            so_far = with_next stays es c.if-stays.entries.items rest _ p true says is more
                ∙ invariant.so_far;
            room = rw w.entries-is (omega (
              arith,
              w.in_ok-put.ensures.len,
              w.in_ok-put.ensures.capacity,
              invariant.room,
              count_next stays rest _ p true says more,
            ));
          }
      | else-stays w ↦
          let says = sym c.stays.ensures ∙ w.if-stays.false in
          let is = ap (λ v. v.items) w.entries-is ∙ w.take_out.ensures.items in
          record {
            sorted = rw is (sorted_without nat_cmp nat_cmp_total p.0 es invariant.sorted);
            so_far = with_next stays es c.if-stays.entries.items rest _ p false says is more
                ∙ invariant.so_far;
            room = rw w.entries-is (omega (
              arith,
              w.take_out.ensures.len,
              w.take_out.ensures.capacity,
              invariant.room,
              count_next stays rest _ p false says more,
            ));
          }
    ]

pub loop-entry-init : goal.loop-entry-init
loop-entry-init g c =
    let same = c.in_ok-reserve.ensures.items in
    record {
      sorted = rw same c.requires.sorted;
      so_far = rw same refl;
      room = rw (← c.requires.staying) c.in_ok-reserve.ensures.ok;
    }

-- with room for all that stay, no put is refused
never : (g : Over) (c : After-from_residual-in_err-put g) {A : Type 0} → A
never g c =
    let stays = g.V.Kept.stays in
    let ps = c.args.new.now in
    let p = c.entry-item.result in
    let rest = drop (c.loop-entry.entry-index + 1) ps in
    let more = next_of ps c.loop-entry.entry-index p c.loop-entry-test.true c.entry-item.is in
    let count = count_next stays rest _ p true (sym c.stays.ensures ∙ c.if-stays.true) more in
    not_so (c.in_err-put.ensures.room (omega (arith, c.loop-entry.invariant.room, count)))

pub returns-in_err-put-clause-err : goal.returns-in_err-put-clause-err
returns-in_err-put-clause-err g c = never g c

pub returns-in_err-put-clause-sure : goal.returns-in_err-put-clause-sure
returns-in_err-put-clause-sure g c = never g c
