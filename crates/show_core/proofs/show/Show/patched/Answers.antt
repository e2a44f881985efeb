use Rattle.show_core.proofs.Terms.{show_view}
use Rattle.show_core.proofs.InRange.{found_in_range}
use Rattle.show_core.proofs.show.Show.patched.Goals as goal

pub returns-clause-range : goal.returns-clause-range
returns-clause-range c =
    rw (c.copied.ensures, c.get.ensures)
    (found_in_range (show_view c.self.inside) c.self.invariant c.args.dimmer)
