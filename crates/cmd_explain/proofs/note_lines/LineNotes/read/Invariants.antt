use Rattle.cmd_explain.proofs.Terms.{AreNotesOf, lines_left}
use Rattle.cmd_explain.proofs.Lines.{FirstRead}
use Rattle.cmd_explain.proofs.note_lines.LineNotes.read.Given as goal

abbrev pub invariant-loop-line : goal.invariant-loop-line
invariant-loop-line l = FirstRead l.text l.lines (lines_left l.line-iterator)
    (λ lines. AreNotesOf l.show lines l.notes)
