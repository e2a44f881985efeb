use Rattle.cmd_cues.proofs.Terms.{◌≡◌, ◌∙◌, ◌++◌, ap, decimal, label_by, record_in, cell}
use Rattle.cmd_cues.proofs.Terms.{label_cell}
use Rattle.std.specs.FinMap as maps
use Rattle.cmd_cues.proofs.Items.{behind}
use Rattle.cmd_cues.proofs.table.push_master.Goals as goal

pub returns : goal.returns
returns c =
    let old = c.args.text.now.items in
    let said = c.args.labels.now.lines.items in
    let channels : c.push_number_cell-2.new.out.items
    ≡ c.push_number_cell.new.out.items ++ cell 10 (decimal (maps.len c.args.levels.now)) =
    c.in_ok-push_number_cell-2.ensures
    ∙ ap (λ n. c.push_number_cell.new.out.items ++ cell 10 (decimal n)) c.channel_count.ensures in
    let label : c.push_label.new.text.items
    ≡ c.push_number_cell-2.new.out.items
    ++ label_cell (label_by said (record_in c.args.of c.args.number)) =
    c.in_ok-push_label.ensures
    ∙ ap (λ l. c.push_number_cell-2.new.out.items ++ label_cell l)
    (c.label.ensures ∙ ap (label_by said) c.record.ensures) in
    let number : c.push_number_cell.new.out.items ≡ old ++ cell 9 (decimal c.args.number) =
    c.in_ok-push_number_cell.ensures ∙ ap (λ n. old ++ cell 9 (decimal n)) c.from.ensures in
    behind old _ _ _ _ (behind old _ _ _ _ (behind old _ _ _ _ number channels) label)
    c.in_ok-push.ensures.items
