use Rattle.cmd_explain.proofs.Terms.{◌≡◌, ℕ, take, is_listed, is_marked}
use Rattle.cmd_explain.proofs.channels.listed_channels.Given as goal

abbrev pub invariant-loop-n : goal.invariant-loop-n
invariant-loop-n l = (channel : ℕ) → is_marked l.listed channel
    ≡ is_listed l.show.cues (take l.n-index l.cues) channel
