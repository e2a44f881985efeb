use Rattle.cmd_listen.proofs.Terms.{◌∙◌, arith, count_line}
use Rattle.cmd_listen.proofs.Texts.{count_all, count_more}
use Rattle.cmd_listen.proofs.ignored.push_counts.Goals as goal

pub loop-place-preserved : goal.loop-place-preserved
loop-place-preserved c =
    c.in_ok-push_count.ensures
    ∙ count_more (count_line c.args.head) c.loop-place.text.items c.args.text.now.items
    c.args.counts.now c.loop-place.place (omega (arith, c.loop-place-test.true))
    c.loop-place.invariant

pub returns : goal.returns
returns c = count_all (count_line c.args.head) c.loop-place.text.items c.args.text.now.items
    c.args.counts.now c.loop-place.place (omega (arith, c.loop-place-test.false))
    c.loop-place.invariant
