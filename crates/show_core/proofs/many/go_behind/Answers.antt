use Rattle.show_core.proofs.Terms.{◌≡◌, ◌≤◌, true, arith}
use Rattle.show_core.proofs.Entries.{behind_more, behind_below}
use Rattle.show_core.proofs.many.go_behind.Goals as goal

pub loop-entry-preserved : goal.loop-entry-preserved
loop-entry-preserved g c =
    let stays = g.V.Kept.stays in
    let es = c.args.entries.now in
    let ps = c.args.new.now in
    let i = c.loop-entry.entry-index in
    let p = c.entry-item.result in
    let lt = c.loop-entry-test.true in
    let least = c.loop-entry.least in
    let from : least ≤ p.0 = omega arith in
    let says : stays p.1 ≡ true = cc in
    let below = c.loop-entry.invariant.below in
    record {
      so_far = behind_more stays es ps i least p lt c.entry-item.is from below says
          c.loop-entry.invariant.so_far;
      below = behind_below stays es ps i least p lt c.entry-item.is from below _ (omega arith);
    }
