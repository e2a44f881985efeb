use Rattle.cmd_cues.proofs.Terms.{◌∙◌, ap, length, take, take_min, min_comm}
use Rattle.cmd_cues.proofs.table.first_bytes.Goals as goal

pub returns : goal.returns
returns c =
    let label = c.args.label.now in
    ap (λ n. take n label) (c.min.ensures ∙ min_comm (length label) 80) ∙ take_min 80 label
