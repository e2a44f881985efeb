use Rattle.cmd_listen.proofs.Terms.{take, WatchHasTaken}
use Rattle.cmd_listen.proofs.stage.Stage.take_bytes.Given as goal

-- the bytes so far
abbrev pub invariant-loop-byte : goal.invariant-loop-byte
invariant-loop-byte g l =
    let W = g.W.Output in
    record {
      told : W.tells l.out → W.tells l.fn.out;
      taken : WatchHasTaken (take l.byte-index l.bytes) l.fn.self l.self (W.tells l.out)
          (W.tape l.fn.out) (W.tape l.out);
    }
