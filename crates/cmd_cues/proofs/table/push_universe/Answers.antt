use Rattle.cmd_cues.proofs.Terms.{◌≡◌, ◌∙◌, ◌+◌, ◌++◌, ap, decimal, dimmer_count, cell}
use Rattle.cmd_cues.proofs.Items.{behind}
use Rattle.cmd_cues.proofs.table.push_universe.Goals as goal

pub returns : goal.returns
returns c =
    let old = c.args.text.now.items in
    let dimmers : c.push_number_cell-2.new.out.items
    ≡ c.push_number_cell.new.out.items
    ++ cell 10 (decimal (dimmer_count c.args.show.now.patch c.args.ordinal)) =
    c.in_ok-push_number_cell-2.ensures
    ∙ ap (λ n. c.push_number_cell.new.out.items ++ cell 10 (decimal n)) c.dimmer_count.ensures in
    let universe : c.push_number_cell.new.out.items ≡ old ++ cell 9 (decimal (c.args.ordinal + 1)) =
    c.in_ok-push_number_cell.ensures ∙ ap (λ n. old ++ cell 9 (decimal (n + 1))) c.from.ensures in
    behind old _ _ _ _ (behind old _ _ _ _ universe dimmers) c.in_ok-push.ensures.items
