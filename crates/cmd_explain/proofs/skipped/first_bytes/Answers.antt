use Rattle.cmd_explain.proofs.Terms.{◌∙◌, ap, length, take, take_min, min_comm}
use Rattle.cmd_explain.proofs.skipped.first_bytes.Goals as goal

pub returns : goal.returns
returns c =
    let line = c.args.line.now in
    ap (λ n. take n line) (c.min.ensures ∙ min_comm (length line) 200) ∙ take_min 200 line
