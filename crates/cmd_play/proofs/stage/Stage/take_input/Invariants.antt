use Rattle.cmd_play.proofs.Terms.{◌≡◌, ℕ, List, with_more, emission, PlayHasTaken, play_room}
use Rattle.cmd_play.proofs.stage.Stage.take_input.Given as goal

-- the bytes so far
abbrev pub invariant-loop-count : goal.invariant-loop-count
invariant-loop-count g l =
    let R = g.R.Feed in
    let L = g.L.Link in
    let W = g.W.Output in
    record {
      told_input : R.tells l.input → R.tells l.fn.input;
      told : (L.tells l.link → L.tells l.fn.link) × (W.tells l.out → W.tells l.fn.out);
      bytes : List ℕ;
      read : R.tells l.input → R.tape l.input ≡ with_more (R.tape l.fn.input) bytes;
      taken : PlayHasTaken g.F.Fader.stands_for bytes l.fn.self l.self
          (L.tells l.link × W.tells l.out) (emission (L.offered l.fn.link) (W.tape l.fn.out))
          (emission (L.offered l.link) (W.tape l.out));
    }

abbrev pub decreases-loop-count : goal.decreases-loop-count
decreases-loop-count g l = play_room l.self.number l.self.pending.items
