use Rattle.cmd_explain.proofs.Terms.{◌∙◌, ◌++◌, ap, ◌≡◌, map, reverse, sym, reverse-reverse}
use Rattle.cmd_explain.proofs.Terms.{notes_on_cues, part_notes, part_of, parts_below}
use Rattle.cmd_explain.proofs.Terms.{statement_notes}
use Rattle.cmd_explain.proofs.Pieces.{joins}
use Rattle.cmd_explain.proofs.weight.push_weighty.Goals as goal

pub returns : goal.returns
returns c = λ lines are.
    let show = c.args.show.now in
    let parts = c.args.notes.now.parts.items in
    let listed : map part_of parts ≡ reverse (parts_below lines) =
    sym (reverse-reverse (map part_of parts)) ∙ ap reverse are.parts in
    joins c.args.text.now.items (part_notes show lines) (statement_notes show lines)
    (c.in_ok-push_part_notes.ensures
    ∙ ap (λ ps. c.args.text.now.items ++ notes_on_cues (map part_of ps) c.as_slice-2.result.now)
    c.as_slice.ensures.value
    ∙ ap (λ ps. c.args.text.now.items ++ notes_on_cues ps c.as_slice-2.result.now) listed
    ∙ ap (λ ns. c.args.text.now.items ++ notes_on_cues (reverse (parts_below lines)) ns)
    (c.as_slice-2.ensures.value ∙ c.in_ok-cues.ensures))
    (c.in_ok-push_statement_notes.ensures show lines are)
