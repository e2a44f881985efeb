use Rattle.std.proofs.Common.{◌≤◌, length}
use Rattle.cmd_live.specs.Night.{trace_of}
use Rattle.cmd_live.specs.Stands.{GoesOn}
use Rattle.cmd_live.proofs.night.Night.run.Given as goal

-- the night has gone on so far, an answer a turn
abbrev pub invariant-loop-turn : goal.invariant-loop-turn
invariant-loop-turn g l =
    let B = g.B.Booth in
    let L = g.L.Link in
    record {
      told_booth : B.tells l.booth → B.tells l.fn.booth;
      told_link : L.tells l.link → L.tells l.fn.link;
      goes : GoesOn g.F.Fader.stands_for (B.tells l.booth × L.tells l.link) l.fn.self l.self
          (trace_of (B.state l.fn.booth) (L.offered l.fn.link))
          (trace_of (B.state l.booth) (L.offered l.link));
      turned : l._turn ≤ length goes.since;
    }
