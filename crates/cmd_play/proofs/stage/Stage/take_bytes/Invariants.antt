use Rattle.cmd_play.proofs.Terms.{take, emission, PlayHasTaken}
use Rattle.cmd_play.proofs.stage.Stage.take_bytes.Given as goal

-- the bytes so far
abbrev pub invariant-loop-byte : goal.invariant-loop-byte
invariant-loop-byte g l =
    let L = g.L.Link in
    let W = g.W.Output in
    record {
      told : (L.tells l.link → L.tells l.fn.link) × (W.tells l.out → W.tells l.fn.out);
      taken : PlayHasTaken g.F.Fader.stands_for (take l.byte-index l.bytes) l.fn.self l.self
          (L.tells l.link × W.tells l.out) (emission (L.offered l.fn.link) (W.tape l.fn.out))
          (emission (L.offered l.link) (W.tape l.out));
    }
