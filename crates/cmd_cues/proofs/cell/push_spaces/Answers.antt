use Rattle.cmd_cues.proofs.Terms.{◌∙◌, ◌++◌, [], ◌∷◌, ap, append_assoc, replicate, replicate_more}
use Rattle.cmd_cues.proofs.cell.push_spaces.Goals as goal

pub loop-space-preserved : goal.loop-space-preserved
loop-space-preserved c =
    let before = c.args.out.now.items in
    let count = c.loop-space._space in
    c.in_ok-push.ensures.items ∙ ap (λ t. t ++ 32 ∷ []) c.loop-space.invariant
    ∙ append_assoc before (replicate count 32) (32 ∷ [])
    ∙ ap (λ t. before ++ t) (replicate_more count 32)
