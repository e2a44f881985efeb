use Rattle.show_core.proofs.Terms.{with_bytes, show_view}
use Rattle.show_core.proofs.Changes.{changed_levels}
use Rattle.show_core.proofs.Cues.{times_stay}
use Rattle.show_core.proofs.InRange.{changed_cue_in_range}
use Rattle.show_core.proofs.show.Show.cue_levels.Goals as goal

pub invariant_of-self-2 : goal.invariant_of-self-2
invariant_of-self-2 c =
    rw (c.in_ok-set_levels.ensures.set, changed_levels c.self.inside.cues c.args.n c.args.pairs.now)
    (changed_cue_in_range (show_view c.self.inside) c.self.invariant c.args.n
    (λ cue. record cue { levels = with_bytes cue.levels c.args.pairs.now })
    (λ cue has. times_stay cue _ has))
