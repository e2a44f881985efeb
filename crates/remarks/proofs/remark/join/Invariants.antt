use Rattle.std.proofs.Common.{◌≡◌, flat_map, map, take}
use Rattle.remarks.specs.Remarks.{excerpt}
use Rattle.remarks.proofs.remark.join.Given as goal

abbrev pub invariant-loop-part : goal.invariant-loop-part
invariant-loop-part l =
    l.remark.items
    ≡ take 512 (flat_map excerpt (map (λ part. part.now) (take l.part-index l.parts)))
