use Rattle.show_core.proofs.Terms.{show_view, cue_with_time}
use Rattle.show_core.proofs.Cues.{times_kept}
use Rattle.show_core.proofs.InRange.{changed_cue_in_range}
use Rattle.show_core.proofs.show.Show.set_time.Goals as goal

pub invariant_of-self : goal.invariant_of-self
invariant_of-self c =
    rw c.set_time.ensures
    (changed_cue_in_range (show_view c.self.inside) c.self.invariant c.args.n
    (λ cue. cue_with_time cue c.args.time)
    (λ cue has. times_kept cue c.args.time has c.requires.range))
