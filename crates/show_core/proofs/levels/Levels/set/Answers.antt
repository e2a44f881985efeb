use Rattle.show_core.proofs.Terms.{IsTrue, is_channel}
use Rattle.show_core.proofs.Ranges.{keys-insert}
use Rattle.show_core.proofs.levels.Levels.set.Goals as goal

pub invariant_of-self-2 : goal.invariant_of-self-2
invariant_of-self-2 c =
    rw c.in_ok-put.ensures.ok
    (keys-insert (λ k. IsTrue (is_channel k)) c.self.inside.pairs c.args.channel c.args.byte
    c.self.invariant c.requires)
