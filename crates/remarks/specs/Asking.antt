-- Whether remarks are told.
use Rattle.std.specs.Prelude.{ℕ, Bool, ◌||◌, List, bytes_eq, codes}

-- a subcommand whose texts no program goes by: people read them, with remarks
abbrev pub is_free : List ℕ → Bool
is_free subcommand =
    bytes_eq subcommand (codes "explain") || bytes_eq subcommand (codes "cues")
    || bytes_eq subcommand (codes "slots") || bytes_eq subcommand (codes "live")
    || bytes_eq subcommand (codes "watch")

-- at a terminal, where a variable of the environment asks for them, and of such a subcommand
abbrev pub has_remarks : List ℕ → List ℕ → Bool → Bool
has_remarks subcommand variable is_terminal =
    is_terminal || bytes_eq variable (codes "1") || is_free subcommand
