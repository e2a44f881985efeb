-- The lines of the program, as a command of clap.
use Rattle.std.specs.Prelude.{◌≡◌, true, false, Some, List, [], ◌∷◌, ◌++◌, codes, find, fold}
use Rattle.std.specs.Option.{option_map_or}
use Rattle.std.specs.Str.{bytes_eq}
use Rattle.clap.specs.Words.{App, Rule, Text, app_of, new_app, new_rule, rule_of, with_rule}
use Rattle.clap.specs.Words.{with_subcommand}
use Rattle.clap.specs.Lexer.{usize_max}
use Rattle.clap.specs.declared.builder.arg.Arg.{Arg}
use Rattle.clap.specs.declared.builder.Command.{Command}
use Rattle.clap.specs.declared.builder.action.ArgAction.TheVariants.{Append, SetTrue}
use Rattle.clap.specs.declared.builder.Command.TheViews.{out-Command as fields_of}

-- an argument follows this rule, for one line alone
abbrev pub IsArgument : Rule → Arg → Type 0
IsArgument rule argument = (rule_of argument ≡ rule) × (argument.global ≡ false)

-- a command is this line, and has no argument for the lines under it
abbrev pub IsLine : App → Command → Type 0
IsLine line command = (app_of command ≡ line) × ((fields_of command).has_globals ≡ false)

-- an argument that has to be there: without a flag, it is the next word
abbrev pub required_word : Text → Rule
required_word id = record (new_rule id) { required = true }

-- an argument that is the next word and each behind it: one at least
abbrev pub several : Text → Rule
several id = record (required_word id) {
  range = Some (record { start_inclusive = 1; end_inclusive = usize_max });
}

-- an option that has to be there: two dashes and its name, and then its value
abbrev pub required_option : Text → Rule
required_option id = record (required_word id) { long = Some id; value_names = 1 }

-- an option that has to be there, and may be there more than once
abbrev pub repeated_option : Text → Rule
repeated_option id = record (required_option id) { action = Some Append }

-- an option that may be absent
abbrev pub option : Text → Rule
option id = record (new_rule id) { long = Some id; value_names = 1 }

-- a flag that may be absent: two dashes and its name, and no value
abbrev pub flag : Text → Rule
flag id = record (new_rule id) { long = Some id; action = Some SetTrue }

-- the show of a line, by the name of its file
abbrev pub show : Rule
show = required_word (codes "SHOW")

-- the cue of a line, by its number
abbrev pub cue : Rule
cue = required_word (codes "CUE")

-- the CID of who sends
abbrev pub cid : Rule
cid = required_option (codes "cid")

-- the number of the first universe
abbrev pub base : Rule
base = option (codes "base")

-- `SHOW --to TARGET.. --cid UUID [--priority P] [--base U] [--interface CARD] [--any-route]
-- [--name TEXT] [--ttl HOPS]`
abbrev pub night_arguments : List Rule
night_arguments = show ∷ repeated_option (codes "to") ∷ cid ∷ option (codes "priority") ∷ base
    ∷ option (codes "interface") ∷ flag (codes "any-route") ∷ option (codes "name")
    ∷ option (codes "ttl") ∷ []

-- those, and `[--record FILE] [--resume] [--spare] [--start N] [--follow FILE] [--patience MS]
-- [--end-with-input]`
abbrev pub live_arguments : List Rule
live_arguments = night_arguments ++ option (codes "record") ∷ flag (codes "resume")
    ∷ flag (codes "spare") ∷ option (codes "start") ∷ option (codes "follow")
    ∷ option (codes "patience")
    ∷ flag (codes "end-with-input") ∷ []

-- `ADDR UNIVERSE COUNT`
abbrev pub listen_arguments : List Rule
listen_arguments =
    required_word (codes "ADDR") ∷ required_word (codes "UNIVERSE")
    ∷ required_word (codes "COUNT") ∷ []

-- `UNIVERSE..`
abbrev pub watch_arguments : List Rule
watch_arguments = record (several (codes "UNIVERSES")) { value_names = 1 } ∷ []

-- a line, by its name and its arguments in order
abbrev pub line : Text → List Rule → App
line name arguments = fold with_rule (new_app name) arguments

-- the lines that read a show
abbrev pub readers : List App
readers = line (codes "check") (show ∷ flag (codes "strict") ∷ [])
    ∷ line (codes "explain") (show ∷ [])
    ∷ line (codes "cues") (show ∷ flag (codes "json") ∷ [])
    ∷ line (codes "look") (show ∷ cue ∷ cid ∷ [])
    ∷ line (codes "slots") (show ∷ cue ∷ base ∷ [])
    ∷ []

-- the lines that play to the network
abbrev pub players : List App
players = line (codes "play") night_arguments ∷ line (codes "live") live_arguments ∷ []

-- the lines that try a night out
abbrev pub trials : List App
trials = line (codes "rehearse") (show ∷ required_word (codes "SCRIPT") ∷ [])
    ∷ line (codes "listen") listen_arguments
    ∷ line (codes "watch") watch_arguments
    ∷ []

-- the lines of the program
abbrev pub lines : List App
lines = readers ++ players ++ trials

-- a command with these lines behind its own
abbrev pub with_commands : App → List App → App
with_commands app more = fold (λ whole l. with_subcommand whole l.top) app more

-- the program before it has lines: a line has to be named
abbrev pub without_lines : App
without_lines = record (new_app (codes "cueplayer")) {
  top = record (new_app (codes "cueplayer")).top { subcommand_required = true };
}

-- the program with all its lines
abbrev pub program : App
program = with_commands without_lines lines

-- the rules of the line of this name, in order
abbrev pub rules_of : Text → List Rule
rules_of name =
    option_map_or (λ l. l.top.rules) (find (λ l. bytes_eq name l.top.name) lines) []
