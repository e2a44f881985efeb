use Rattle.std.proofs.Common.{take}
use Rattle.clap.specs.Words.{new_app}
use Rattle.cmd_words.specs.Program.{IsLine}
use Rattle.cmd_words.specs.Line.{with_arguments}
use Rattle.cmd_words.proofs.line.Line.command.Given as goal

abbrev pub invariant-loop-argument : goal.invariant-loop-argument
invariant-loop-argument l =
    let read = take l.argument-index l.self.arguments.now in
    IsLine (with_arguments (new_app l.self.name.now) read) l.command
