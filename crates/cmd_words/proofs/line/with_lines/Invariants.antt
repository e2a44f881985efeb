use Rattle.std.proofs.Common.{◌≡◌, take}
use Rattle.clap.specs.Words.{app_of}
use Rattle.cmd_words.specs.Line.{with_lines}
use Rattle.cmd_words.proofs.line.with_lines.Given as goal

abbrev pub invariant-loop-line : goal.invariant-loop-line
invariant-loop-line l =
    app_of l.command ≡ with_lines (app_of l.initial.command) (take l.line-index l.lines)
