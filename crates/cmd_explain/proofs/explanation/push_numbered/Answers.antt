use Rattle.cmd_explain.proofs.Terms.{◌∙◌, ◌++◌, ap, notes_of_kind, list_above, numbers_above}
use Rattle.cmd_explain.proofs.Terms.{run_note, note_on_run}
use Rattle.cmd_explain.proofs.Pieces.{joins}
use Rattle.cmd_explain.proofs.explanation.push_numbered.Goals as goal

pub returns : goal.returns
returns c = λ lines are.
    let between = c.extend_from_slice.new.self.items in
    joins c.args.text.now.items (notes_of_kind run_note lines)
    (note_on_run (list_above lines) (numbers_above lines))
    (c.in_ok-extend_from_slice.ensures.items
    ∙ ap (λ notes. c.args.text.now.items ++ notes) (c.as_slice.ensures.value ∙ are.notes))
    (c.in_ok-push_run.ensures
    ∙ ap (λ ns. between ++ note_on_run c.args.numbered.now.list ns)
    (c.as_slice-2.ensures.value ∙ are.numbers)
    ∙ ap (λ l. between ++ note_on_run l (numbers_above lines)) are.list)
