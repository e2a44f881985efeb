use Rattle.std.proofs.Common.{◌++◌, ◌∙◌, ap, codes, arith}
use Rattle.master_core.specs.Settings.{group_after}
use Rattle.console.specs.WhereLine.{master_text}
use Rattle.console.proofs.Numbers.{all_groups, number_more}
use Rattle.console.proofs.whereabouts.push_groups.Goals as goal

pub loop-n-preserved : goal.loop-n-preserved
loop-n-preserved c = record {
  text = λ settings stands. number_more
      (λ n. master_text (codes "group") n (group_after settings n)) c.args.line.now.bytes
      c.loop-n.line.bytes c.push_master.new.line.bytes c.loop-n.n c.loop-n.auto.n
      (c.loop-n.invariant.text settings stands)
      (c.push_master.ensures.text ∙ ap
      (λ byte. c.loop-n.line.bytes ++ master_text (codes "group") c.loop-n.n byte)
      (c.group.ensures settings stands));
  room = omega (arith, c.loop-n.invariant.room, c.push_master.ensures.room);
}

pub returns-clause-text : goal.returns-clause-text
returns-clause-text c = λ settings stands. all_groups settings _ _ c.loop-n.n
    (omega (arith, c.loop-n-test.false, c.loop-n.auto.n-end))
    (c.loop-n.invariant.text settings stands)
