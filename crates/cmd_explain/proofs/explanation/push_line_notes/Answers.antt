use Rattle.cmd_explain.proofs.Terms.{◌∙◌, ◌++◌, ap, hour_note, notes_of_kind, weighty_line_notes}
use Rattle.cmd_explain.proofs.Pieces.{joins}
use Rattle.cmd_explain.proofs.explanation.push_line_notes.Goals as goal

pub returns : goal.returns
returns c = λ lines are.
    let show = c.args.show.now in
    joins c.args.text.now.items (weighty_line_notes show lines) (notes_of_kind hour_note lines)
    (c.in_ok-push_weighty.ensures lines are)
    (c.in_ok-extend_from_slice.ensures.items
    ∙ ap (λ hours. c.push_weighty.new.text.items ++ hours) (c.as_slice.ensures.value ∙ are.hours))
