-- Where packets go, as texts.
use Rattle.std.specs.Prelude.{ℕ, ◌==◌, List, [], ◌∷◌, Bool, Option, Some, None, Result, Ok, Err}
use Rattle.std.specs.Prelude.{length, nat_le, option_map, if◌then◌else◌}
use Rattle.std.specs.List.{list_any, before_first, after_first}
use Rattle.std.specs.Result.{result_ok}
use Rattle.clap.specs.Words.{Text}
use Rattle.cmd_words.specs.Address.{address_of}
use Rattle.cmd_words.specs.Number.{number_between}
use Rattle.targets.specs.declared.target.Target.{Target}
use Rattle.targets.specs.declared.target.Universes.{Universes}

-- `=`, which stands between universes and their address
abbrev pub is_equals : ℕ → Bool
is_equals byte = byte == 61

-- `-`, which stands between the first universe and the last
abbrev pub is_dash : ℕ → Bool
is_dash byte = byte == 45

-- a universe number (E1.31-2018, universe)
abbrev pub universe_number : Text → Option ℕ
universe_number = number_between 1 63999

-- the universes from the first to the last, where the last is not before the first
abbrev pub from_to : Option ℕ → Option ℕ → Option Universes
from_to (Some first) (Some last) =
    if nat_le first last then Some (record { first = first; last = last }) else None
from_to _ _ = None

-- `U`, or `F-L`
abbrev pub universe_range : Text → Option Universes
universe_range text =
    if list_any is_dash text
    then from_to (universe_number (before_first is_dash text))
    (universe_number (after_first is_dash text))
    else from_to (universe_number text) (universe_number text)

-- a target at this address, where it and the universes are there
abbrev pub at_address : Option (Option Universes) → Option (List ℕ × ℕ) → Option Target
at_address (Some universes) (Some to) = Some record {
  universes = universes;
  address = record { host = to.0; port = to.1 };
}
at_address _ _ = None

-- `HOST[:PORT]`, for all universes, or `U=` or `F-L=` and that
abbrev pub target_of : Text → Option Target
target_of text =
    if list_any is_equals text
    then at_address (option_map Some (universe_range (before_first is_equals text)))
    (address_of (after_first is_equals text))
    else at_address (Some None) (address_of text)

-- the target of a text in front of the others, or the text that has none
abbrev pub read_first : Text → Option Target → Result (List Target) Text
    → Result (List Target) Text
read_first text None rest = Err text
read_first text (Some target) (Ok targets) = Ok (target ∷ targets)
read_first text (Some target) (Err other) = Err other

-- the targets of texts in order, or the first text that has none
abbrev pub read_all : List Text → Result (List Target) Text
read_all [] = Ok []
read_all (text ∷ rest) = read_first text (target_of text) (read_all rest)

-- the targets of a night: 64 at most
abbrev pub targets_of : List Text → Option (List Target)
targets_of texts = if nat_le (length texts) 64 then result_ok (read_all texts) else None
