use Rattle.std.proofs.Common.{◌∙◌, [], ◌∷◌, ◌++◌, None, refl, sym}
use Rattle.playback_core.specs.Played.{Move}
use Rattle.cmd_live.proofs.Moves.{one_line}
use Rattle.cmd_live.proofs.Texts.{shown_by, shows_more, shows_none}
use Rattle.cmd_live.proofs.carry.show_follow_ons.Goals as goal

pub loop-cue-init : goal.loop-cue-init
loop-cue-init g c = record {
  newer = [];
  told = λ t. t;
  follows = λ moves stopped is. (is, refl);
  shows = λ t. shows_none _ _;
}

pub loop-cue-preserved : goal.loop-cue-preserved
loop-cue-preserved g c =
    let so_far = c.loop-cue.invariant in
    let move : Move = record { cue = c.in-Some.cue; moment = c.in-Some.at; time = None } in
    let text = c.as_bytes.ensures.value ∙ c.as_str.ensures.value ∙ c.cue_line.ensures in
    record {
      newer = move ∷ so_far.newer;
      told = λ t. so_far.told (c.show.ensures.told t);
      follows = λ moves stopped is.
          let before = so_far.follows moves stopped is in
          let after = c.in-Some.ensures.moved (so_far.newer ++ moves) stopped before.0 in
          (after.0, sym after.1 ∙ before.1);
      shows = λ t. rw (one_line move so_far.newer, ← text) (shows_more _ _ _ _ _ _
          (so_far.shows (c.show.ensures.told t))
          (shown_by c.show.result _ _ _ _ _ c.show.ensures.ok c.show.ensures.err t));
    }
