use Rattle.cmd_cues.proofs.Terms.{◌≡◌, ◌∙◌, ◌++◌, ap, Cue, label_by, label_cell}
use Rattle.cmd_cues.proofs.Items.{behind}
use Rattle.cmd_cues.proofs.table.push_cue.Goals as goal

pub returns : goal.returns
returns c =
    let old = c.args.text.now.items in
    let label : c.push_label.new.text.items
    ≡ c.push_number_cell.new.out.items
    ++ label_cell (label_by c.args.labels.now.lines.items (Cue c.args.cue.now.number)) =
    c.in_ok-push_label.ensures
    ∙ ap (λ l. c.push_number_cell.new.out.items ++ label_cell l) c.label.ensures in
    behind old _ _ _ _ (behind old _ _ _ _ (behind old _ _ _ _ (behind old _ _ _ _
    (behind old _ _ _ _ (behind old _ _ _ _ c.in_ok-push_decimal_cell.ensures
    c.in_ok-push_rate.ensures) c.in_ok-push_rate-2.ensures) c.in_ok-push_follow.ensures)
    c.in_ok-push_number_cell.ensures) label) c.in_ok-push.ensures.items
