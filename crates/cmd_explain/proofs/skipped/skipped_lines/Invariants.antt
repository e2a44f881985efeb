use Rattle.cmd_explain.proofs.Terms.{◌≡◌, lines_left, heading_below, skipped_lines, words_in}
use Rattle.cmd_explain.proofs.Lines.{FirstRead}
use Rattle.cmd_explain.proofs.skipped.skipped_lines.Given as goal

abbrev pub invariant-loop-line : goal.invariant-loop-line
invariant-loop-line l = FirstRead l.text l.lines (lines_left l.line-iterator)
    (λ lines. (l.above ≡ heading_below (words_in lines)) × (l.out.items ≡ skipped_lines lines))
