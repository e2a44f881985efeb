use Rattle.std.proofs.Common.{◌∙◌, ap, length, take}
use Rattle.std.proofs.lemmas.List.{take_min}
use Rattle.std.proofs.Math.Nat.{min_comm}
use Rattle.remarks.proofs.remark.first_bytes.Goals as goal

pub returns : goal.returns
returns c =
    let part = c.args.part.now in
    ap (λ n. take n part) (c.min.ensures ∙ min_comm (length part) 200) ∙ take_min 200 part
