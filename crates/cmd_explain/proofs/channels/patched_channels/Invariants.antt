use Rattle.cmd_explain.proofs.Terms.{◌≡◌, ◌==◌, ℕ, take, list_any, is_marked}
use Rattle.cmd_explain.proofs.channels.patched_channels.Given as goal

abbrev pub invariant-loop-channel : goal.invariant-loop-channel
invariant-loop-channel l = (channel : ℕ) → is_marked l.patched channel
    ≡ list_any (λ e. e.1.0 == channel) (take l.channel-index l.channel-items)
