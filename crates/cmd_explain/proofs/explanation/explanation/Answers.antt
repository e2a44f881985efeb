use Rattle.cmd_explain.proofs.Terms.{◌≡◌, ◌∙◌, rules, encoding_notes}
use Rattle.cmd_explain.proofs.WholeText.{adds, whole_text}
use Rattle.cmd_explain.proofs.explanation.explanation.Goals as goal

pub returns : goal.returns
returns c =
    let front : c.push_encoding.new.out.items ≡ encoding_notes c.args.show.now = search rules in
    whole_text c.args.show.now c.args.loaded.now.lines c.args.loaded.now.show
    front c.in_ok-extend_from_slice.ensures.items
    (c.as_slice.ensures.value ∙ c.in_ok-skipped.ensures)
    (c.in_ok-push_numbered.ensures _ c.in_ok-notes.ensures.numbered)
    (adds (λ note. note.items) _ c.in_ok-push_notes.ensures)
    (c.in_ok-push_line_notes.ensures _ c.in_ok-notes.ensures)
    c.in_ok-push_show_notes.ensures
