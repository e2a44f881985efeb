use Rattle.cmd_listen.proofs.Terms.{◌≡◌, drop, packets_missed}
use Rattle.cmd_listen.proofs.sources.packets_missed.Given as goal

-- what those that are left say is what all say
abbrev pub invariant-loop-other : goal.invariant-loop-other
invariant-loop-other l =
    packets_missed (drop l.other-index l.before) l.source ≡ packets_missed l.before l.source
