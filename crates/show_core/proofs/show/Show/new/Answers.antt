use Rattle.show_core.proofs.InRange.{empty_in_range}
use Rattle.show_core.proofs.show.Show.new.Goals as goal

pub invariant_of-result : goal.invariant_of-result
invariant_of-result c =
    rw (c.new.ensures, c.new-2.ensures, c.new-3.ensures, c.new-4.ensures) empty_in_range
