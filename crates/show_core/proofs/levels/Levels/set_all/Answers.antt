use Rattle.show_core.proofs.Entries.{with_bytes_all, keys-with_bytes}
use Rattle.show_core.proofs.levels.Levels.set_all.Goals as goal

pub invariant_of-self-2 : goal.invariant_of-self-2
invariant_of-self-2 c =
    rw (c.in_ok-put_all.ensures.ok, with_bytes_all c.self.inside.pairs c.args.pairs.now)
    (keys-with_bytes c.self.inside.pairs c.args.pairs.now c.self.invariant c.requires)
