use Rattle.std.proofs.Common.{◌≡◌, ◌<◌, ◌≤◌, ◌+◌, ◌⊎◌, length, rules, arith, ap, inl, inr, sym, ◌∙◌}
use Rattle.std.proofs.lemmas.Grind.{common_steps}
use Rattle.ascii_text.specs.Text.{numbered_from}
use Rattle.ascii_text.proofs.Fronts.{next_line}
use Rattle.ascii_text.proofs.text.LinesIterator.next.Goals as goal
use Rattle.ascii_text.proofs.text.LinesIterator.next.Goals.{then-end-self, else-end-self}

pub returns-clause-steps : goal.returns-clause-steps
returns-clause-steps c =
    let s = c.self.inside.rest.now in
    let end = c.position_or_len-end.result in
    let after = c.if-end-self.after in
    let way : ((end < length s) × (after ≡ end + 1)) ⊎ ((length s ≤ end) × (after ≡ length s))
    = elim c.if-end-self.branch [
      | then-end-self w ↦ inl (omega arith, omega arith)
      | else-end-self w ↦ inr (omega arith, omega arith)
    ] in
    sym c.self.view_is
    ∙ ap (numbered_from (c.self.inside.number + 1))
    (next_line s end after (grind (arith, common_steps)) c.position_or_len-end.ensures.place way)

pub returns-clause-goes : goal.returns-clause-goes
returns-clause-goes c = let steps = returns-clause-steps c in search rules
