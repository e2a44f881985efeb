use Rattle.show_core.proofs.Terms.{◌<◌, arith, take, take_all, All-more, All-weaker}
use Rattle.show_core.proofs.many.table_len.Goals as goal

pub loop-entry-preserved : goal.loop-entry-preserved
loop-entry-preserved g c =
    let ps = c.args.new.now in
    let i = c.loop-entry.entry-index in
    let p = c.entry-item.result in
    let invariant = c.loop-entry.invariant in
    record {
      own = All-weaker (λ e. e.0 < c.loop-entry.len) (λ e. e.0 < c.max-len.result)
          (λ e h. omega (arith, h, c.max-len.ensures)) c.args.entries.now invariant.own;
      so_far = All-more (λ e. e.0 < c.max-len.result) ps i p c.loop-entry-test.true
          (All-weaker (λ e. e.0 < c.loop-entry.len) (λ e. e.0 < c.max-len.result)
          (λ e h. omega (arith, h, c.max-len.ensures)) (take i ps) invariant.so_far)
          (rw (← c.entry-item.is) (omega (arith, c.behind.ensures.next, c.max-len.ensures)));
      bound = omega (arith, invariant.bound, c.behind.ensures.bound, c.max-len.ensures);
    }

pub returns-clause-new : goal.returns-clause-new
returns-clause-new g c =
    rw (← take_all c.loop-entry.entry-index c.args.new.now c.loop-entry-test.false)
    c.loop-entry.invariant.so_far
