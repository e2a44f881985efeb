use Rattle.cmd_explain.proofs.Terms.{◌≡◌, ◌≤◌, ◌==◌, ℕ, take, list_any, is_marked}
use Rattle.cmd_explain.proofs.part_notes.marked_channels.Given as goal

abbrev pub invariant-loop-channel : goal.invariant-loop-channel
invariant-loop-channel l = (channel : ℕ) → channel ≤ 4096
    → is_marked l.channels channel
    ≡ list_any (λ pair. pair.0 == channel) (take l.channel-index l.pairs)
