use Rattle.std.proofs.Common.{◌∙◌, ◌∷◌}
use Rattle.playback_core.specs.Played.{Move}
use Rattle.cmd_live.proofs.Moves.{made_is, one_line}
use Rattle.cmd_live.proofs.Texts.{shown_by, shows_more}
use Rattle.cmd_live.proofs.carry.show_moves.Goals as goal

pub returns-in-Some-clause-shows : goal.returns-in-Some-clause-shows
returns-in-Some-clause-shows g c = λ moves stopped time is tells.
    let first = c.show_follow_ons.ensures.shows in
    let newer = first.0 in
    let move : Move = record { cue = c.in-Some.cue; moment = c.args.moment; time = time } in
    let text = c.as_bytes.ensures.value ∙ c.as_str.ensures.value ∙ c.cue_line.ensures in
    rw (
      c.in-Some.is,
      first.1 moves stopped is,
      made_is (move ∷ newer) moves,
      one_line move newer,
      ← text,
    ) (shows_more _ _ _ _ _ _
    (first.2 (c.show.ensures.told tells))
    (shown_by c.show.result _ _ _ _ _ c.show.ensures.ok c.show.ensures.err tells))

pub returns-in_default-clause-shows : goal.returns-in_default-clause-shows
returns-in_default-clause-shows g c = λ moves stopped time is tells.
    let first = c.show_follow_ons.ensures.shows in
    rw (c.in_default.is, first.1 moves stopped is, made_is first.0 moves) (first.2 tells)
