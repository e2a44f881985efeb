use Rattle.std.proofs.Common.{◌∙◌, [], ap, arith, flat_map, map, take}
use Rattle.std.proofs.lemmas.List.{take_all}
use Rattle.remarks.specs.Remarks.{excerpt, remark_of}
use Rattle.remarks.proofs.Cuts.{more_parts, one_more}
use Rattle.remarks.proofs.remark.join.Goals as goal

pub loop-part-preserved : goal.loop-part-preserved
loop-part-preserved c =
    let parts = c.args.parts.now in
    let i = c.loop-part.part-index in
    one_more 512 [] (flat_map excerpt (map (λ part. part.now) (take i parts))) _ _ _ _
    c.loop-part.invariant c.push_shown.ensures (more_parts parts i _ c.loop-part-test.true)

pub returns : goal.returns
unfolding remark_of
returns c =
    let parts = c.args.parts.now in
    c.loop-part.invariant
    ∙ ap (λ l. take 512 (flat_map excerpt (map (λ part. part.now) l)))
    (take_all c.loop-part.part-index parts (omega (arith, c.loop-part-test.false)))
