use Rattle.std.proofs.Common.{◌∙◌, ap, length, take}
use Rattle.std.proofs.lemmas.List.{take_min}
use Rattle.std.proofs.Math.Nat.{min_comm}
use Rattle.remarks.proofs.text_line.first_bytes.Goals as goal

pub returns-clause-bytes : goal.returns-clause-bytes
returns-clause-bytes c =
    let text = c.args.text.now in
    ap (λ n. take n text) (c.min.ensures ∙ min_comm (length text) 16777217) ∙ take_min 16777217 text
