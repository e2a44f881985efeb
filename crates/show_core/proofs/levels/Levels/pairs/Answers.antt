use Rattle.show_core.proofs.levels.Levels.pairs.Goals as goal

pub returns-clause-range : goal.returns-clause-range
returns-clause-range c = rw (← c.self.view_is) c.self.invariant
