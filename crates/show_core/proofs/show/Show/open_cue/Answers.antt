use Rattle.show_core.proofs.Terms.{◌≡◌, true, ap, ◌∙◌, arith, common_steps, can_open, show_view}
use Rattle.show_core.proofs.InRange.{opened_cue_in_range}
use Rattle.show_core.proofs.show.Show.open_cue.Goals as goal

pub invariant_of-self-2 : goal.invariant_of-self-2
invariant_of-self-2 c =
    let can : can_open c.args.self.now.cues c.args.n ≡ true = grind (arith, common_steps) in
    rw c.in_ok-open.ensures.opened
    (opened_cue_in_range (show_view c.self.inside) c.self.invariant c.args.n
    (ap (λ s. can_open s.cues c.args.n) c.self.view_is ∙ can))
