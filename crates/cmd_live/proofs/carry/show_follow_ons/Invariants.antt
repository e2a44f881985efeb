use Rattle.std.proofs.Common.{◌≡◌, ◌++◌, Bool, List}
use Rattle.playback_core.specs.Placed.{IsPlaceAfter, cues_above}
use Rattle.playback_core.specs.Played.{Move, moves_by}
use Rattle.cmd_live.specs.Shown.{cue_lines}
use Rattle.cmd_live.specs.Stands.{ShowsText}
use Rattle.cmd_live.proofs.carry.show_follow_ons.Given as goal

-- these moves were shown, and stand in front of those before
abbrev pub invariant-loop-cue : goal.invariant-loop-cue
invariant-loop-cue g l =
    let B = g.B.Booth in
    record {
      newer : List Move;
      told : B.tells l.booth → B.tells l.fn.booth;
      follows : (moves : List Move) (stopped : Bool) → IsPlaceAfter l.show l.fn.place moves stopped
          → IsPlaceAfter l.show l.place (newer ++ moves) stopped
          × (moves_by l.show stopped l.moment (newer ++ moves)
          ≡ moves_by l.show stopped l.moment moves);
      shows : B.tells l.booth → ShowsText (g.L.Link.offered l.fn.link) (B.state l.fn.booth)
          (B.state l.booth) (cue_lines newer);
    }

abbrev pub decreases-loop-cue : goal.decreases-loop-cue
decreases-loop-cue g l = cues_above l.show.cues l.place.current
