use Rattle.cmd_cues.proofs.Terms.{◌≡◌, map, take, cue_row}
use Rattle.std.specs.FinMap as maps
use Rattle.cmd_cues.proofs.cue_rows.cue_rows.Given as goal

abbrev pub invariant-loop-number : goal.invariant-loop-number
invariant-loop-number l =
    l.rows.items ≡ map cue_row (take l.number-index (maps.entries l.show.cues))
