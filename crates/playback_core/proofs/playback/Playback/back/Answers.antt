use Rattle.playback_core.proofs.Terms.{◌≡◌, Some, rules, cue_below, AtStart, back_target}
use Rattle.playback_core.proofs.Found.{contains_key-cue_below, steps_to}
use Rattle.playback_core.proofs.playback.Playback.back.Goals as goal

pub returns : goal.returns
returns g c =
    let below : cue_below c.args.show.now.cues c.in_ok-current.current ≡ Some c.in_ok-cue.cue =
    search rules in
    steps_to (back_target c.args.show.now.cues) AtStart c.current_by.result
    (contains_key-cue_below _ _ _ below) (search rules)
    (rw (← c.self.view_is) (λ moves stopped stands. c.current_by.ensures moves stopped
    (record { current = stands.current; due = stands.due })))
    c.goto.ensures.answer c.goto.ensures.moved
