use Rattle.cmd_listen.proofs.Terms.{◌≡◌}
use Rattle.cmd_listen.proofs.Listened.{Heard}
use Rattle.cmd_listen.proofs.listening.listen.Given as goal

abbrev pub invariant-loop-older : goal.invariant-loop-older
invariant-loop-older g l = record {
  universe : l.receiver.universe ≡ l.universe;
  told_source : g.D.Datagrams.tells l.source → g.D.Datagrams.tells l.fn.source;
  told_output : g.W.Output.tells l.out → g.W.Output.tells l.fn.out;
  heard : Heard l.universe l.older l.receiver (g.D.Datagrams.tells l.source)
      (g.W.Output.tells l.out)
      (g.D.Datagrams.tape l.fn.source) (g.D.Datagrams.tape l.source)
      (g.W.Output.tape l.fn.out) (g.W.Output.tape l.out);
}
