use Rattle.cmd_listen.proofs.Terms.{arith}
use Rattle.cmd_listen.proofs.Tops.{no_source, top_more}
use Rattle.cmd_listen.proofs.sources.top.Goals as goal

pub loop-source-preserved : goal.loop-source-preserved
loop-source-preserved c = omega (
  arith,
  top_more c.args.sources.now c.loop-source.source-index no_source c.loop-source-test.true,
  c.loop-source.invariant,
  c.max-top.ensures,
)
