use Rattle.cmd_cues.proofs.Terms.{◌≡◌, AreOf, FirstRead, desk_limits, lines_left, owner_below}
use Rattle.cmd_cues.proofs.Terms.{words_in}
use Rattle.cmd_cues.proofs.labels.Labels.read.Given as goal

abbrev pub invariant-loop-line : goal.invariant-loop-line
invariant-loop-line l = FirstRead l.text l.lines (lines_left l.line-iterator)
    (λ lines. (l.owner ≡ owner_below desk_limits (words_in lines))
    × AreOf lines l.labels.lines.items)
