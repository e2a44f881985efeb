use Rattle.playback_core.proofs.Terms.{◌≡◌, Some, rules, AtEnd, go_target}
use Rattle.playback_core.proofs.Found.{contains_key-cue_above, steps_to}
use Rattle.playback_core.proofs.playback.Playback.go.Goals as goal

pub returns : goal.returns
returns g c =
    let found : go_target c.args.show.now.cues c.current_by-current.result ≡ Some c.in_ok-cue.cue =
    search rules in
    steps_to (go_target c.args.show.now.cues) AtEnd c.current_by-current.result
    (contains_key-cue_above _ _ _ found) found
    (rw (← c.self.view_is) (λ moves stopped stands. c.current_by-current.ensures moves stopped
    (record { current = stands.current; due = stands.due })))
    c.goto.ensures.answer c.goto.ensures.moved
