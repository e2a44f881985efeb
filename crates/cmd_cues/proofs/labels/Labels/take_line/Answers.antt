use Rattle.cmd_cues.proofs.Terms.{◌∷◌, subst, sym, words_of, reading_is, AreOf}
use Rattle.cmd_cues.proofs.Labelling.{next_labels}
use Rattle.cmd_cues.proofs.labels.Labels.take_line.Goals as goal

pub returns-clause-labels : goal.returns-clause-labels
returns-clause-labels c = λ above owned are.
    let line = c.args.line.now in
    let owner = c.args.owner in
    let reading = c.in-Some.reading in
    let said = (reading_is owner (words_of line) reading c.in-Some.ensures.means).statement in
    subst (AreOf (line ∷ above)) (sym c.in_ok-push.ensures)
    (next_labels above line owner reading.statement c.label_line.result c.args.self.now.lines.items
    owned said c.label_line.ensures are)
