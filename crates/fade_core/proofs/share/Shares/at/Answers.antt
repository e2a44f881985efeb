use Rattle.std.proofs.Common.{rules, ◌≡◌, arith}
use Rattle.fade_core.specs.Share.{IsShareOf}
use Rattle.fade_core.proofs.Fade.{split_fade_over}
use Rattle.fade_core.proofs.Shares.{moved_split_fade}
use Rattle.fade_core.proofs.share.Shares.at.Goals.{then-eq, else-eq}
use Rattle.fade_core.proofs.share.Shares.at.Goals as goal

pub returns : goal.returns
returns c =
    let up = c.args.up in
    let down = c.args.down in
    let elapsed = c.args.elapsed in
    let rising : IsShareOf up elapsed c.share_of-rising.result = c.share_of-rising.ensures in
    let falling : IsShareOf down elapsed c.if-eq.falling =
    elim c.if-eq.branch [
      | then-eq w ↦ let same : down ≡ up = search rules in rw (w.falling-is, same) rising
      | else-eq w ↦ rw w.falling-is w.share_of-falling.ensures
    ] in
    record {
      moved = λ a b small_a small_b.
          moved_split_fade a b up down elapsed _ _ small_a small_b rising falling;
      over = λ up_is down_is a b later le.
          split_fade_over a b up down later (omega (arith, rising.over up_is))
          (omega (arith, falling.over down_is));
    }
