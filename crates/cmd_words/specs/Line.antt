-- A line as the code lists it, as a command of clap.
use Rattle.std.specs.Prelude.{List, fold}
use Rattle.clap.specs.Words.{App, Rule, new_app, with_rule, with_subcommand}
use Rattle.cmd_words.specs.Program.{flag, option, repeated_option, required_word}
use Rattle.cmd_words.specs.Program.{required_option, several}
use Rattle.cmd_words.specs.declared.line.Argument.{Argument}
use Rattle.cmd_words.specs.declared.line.Argument.TheVariants.{Positional, Repeated, Required}
use Rattle.cmd_words.specs.declared.line.Argument.TheVariants.{Flag, Optional, Several}
use Rattle.cmd_words.specs.declared.line.Line.{Line}

-- the rule of an argument
abbrev pub rule_of_argument : Argument → Rule
rule_of_argument (Positional id help) = required_word id.now
rule_of_argument (Several id value help) = record (several id.now) { value_names = 1 }
rule_of_argument (Required id value help) = required_option id.now
rule_of_argument (Repeated id value help) = repeated_option id.now
rule_of_argument (Optional id value help) = option id.now
rule_of_argument (Flag id help) = flag id.now

-- a command with the rules of these arguments
abbrev pub with_arguments : App → List Argument → App
with_arguments = fold (λ app argument. with_rule app (rule_of_argument argument))

-- a line with its arguments in order
abbrev pub app_of_line : Line → App
app_of_line line = with_arguments (new_app line.name.now) line.arguments.now

-- a command with these lines as its subcommands
abbrev pub with_lines : App → List Line → App
with_lines = fold (λ app line. with_subcommand app (app_of_line line).top)
