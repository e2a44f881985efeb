use Rattle.std.proofs.Common.{◌≡◌, ◌∙◌, ap, take, arith}
use Rattle.std.proofs.lemmas.Grind.{common_steps}
use Rattle.sacn_receiver.specs.Records.{top_at}
use Rattle.sacn_receiver.proofs.Merging.{greatest_lit, lit_merged}
use Rattle.sacn_receiver.proofs.live.merge.Goals as goal

pub returns : goal.returns
returns c = λ s lt.
    let moment = c.args.moment in
    let rs = c.args.records.now in
    let top = c.top_priority-top.result in
    let whole : take c.loop-record.record-index rs ≡ rs = grind (arith, common_steps) in
    c.loop-record.invariant s lt ∙ ap (greatest_lit moment top s) whole
    ∙ ap (λ top. greatest_lit moment top s rs) c.top_priority-top.ensures
    ∙ lit_merged moment (top_at moment rs) s rs
