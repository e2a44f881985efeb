use Rattle.cmd_explain.proofs.Terms.{◌∙◌, ap, length, take, take_min, min_comm}
use Rattle.cmd_explain.proofs.seeming.first_bytes.Goals as goal

pub returns : goal.returns
returns c =
    let text = c.args.text.now in
    ap (λ n. take n text) (c.min.ensures ∙ min_comm (length text) 512) ∙ take_min 512 text
