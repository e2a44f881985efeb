use Rattle.cmd_listen.proofs.Terms.{◌≡◌, ℕ, List, with_more, WatchHasTaken, watch_room}
use Rattle.cmd_listen.proofs.stage.Stage.take_input.Given as goal

-- the bytes so far
abbrev pub invariant-loop-count : goal.invariant-loop-count
invariant-loop-count g l =
    let R = g.R.Feed in
    let W = g.W.Output in
    record {
      told_input : R.tells l.input → R.tells l.fn.input;
      told : W.tells l.out → W.tells l.fn.out;
      bytes : List ℕ;
      read : R.tells l.input → R.tape l.input ≡ with_more (R.tape l.fn.input) bytes;
      taken : WatchHasTaken bytes l.fn.self l.self (W.tells l.out) (W.tape l.fn.out) (W.tape l.out);
    }

abbrev pub decreases-loop-count : goal.decreases-loop-count
decreases-loop-count g l = watch_room l.self.number l.self.pending.items
