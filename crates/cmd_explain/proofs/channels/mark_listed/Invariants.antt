use Rattle.cmd_explain.proofs.Terms.{◌≡◌, ◌==◌, ◌||◌, ℕ, take, list_any, is_marked}
use Rattle.cmd_explain.proofs.channels.mark_listed.Given as goal

abbrev pub invariant-loop-channel : goal.invariant-loop-channel
invariant-loop-channel l = (channel : ℕ) → is_marked l.channels channel
    ≡ is_marked l.initial.channels channel
    || list_any (λ pair. pair.0 == channel) (take l.channel-index l.channel-items)
