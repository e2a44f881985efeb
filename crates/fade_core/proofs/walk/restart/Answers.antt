use Rattle.std.proofs.Common.{◌≡◌, ◌<◌, ◌∙◌, sym, ap, get_or, length, arith}
use Rattle.fade_core.proofs.Shares.{moved_still}
use Rattle.fade_core.proofs.walk.restart.Goals as goal

pub bring-requires-clause-others : goal.bring-requires-clause-others
bring-requires-clause-others c = λ place lt unlisted.
    let from = c.copy_from_slice.new.self in
    let size : place < length from =
    omega (arith, c.requires.levels, c.copy_from_slice.ensures.len) in
    let same : get_or from place 0 ≡ get_or c.aim.new.to place 0 =
    c.list_moving-count.ensures.others place size unlisted in
    let kept : get_or c.args.levels.now place 0 ≡ get_or from place 0 =
    ap (λ xs. get_or xs place 0) (sym c.copy_from_slice.ensures.after) in
    kept ∙ rw same (sym (moved_still _ _ _))
