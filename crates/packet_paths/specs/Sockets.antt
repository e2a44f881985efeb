-- From which address packets come, and when a socket is tied to its card.
use Rattle.std.specs.Prelude.{ℕ, Bool, true, false, ◌&&◌, not, List, nat_eq, Option, Some, None}
use Rattle.std.specs.Prelude.{◌==◌, if◌then◌else◌}
use Rattle.std.specs.Option.{option_or}
use Rattle.std.specs.declared.io.ErrorKind.{ErrorKind}
use Rattle.std.specs.declared.io.ErrorKind.TheVariants as kind

-- the address that packets come from: that of the card that is named, else the one that the route
-- to their host gives
abbrev pub source_address : Option (List ℕ) → Option (List ℕ) → Option (List ℕ)
source_address named route = option_or named route

-- two cards have the same number, or neither is there
abbrev pub same_number : Option ℕ → Option ℕ → Bool
same_number None None = true
same_number None (Some b) = false
same_number (Some a) None = false
same_number (Some a) (Some b) = nat_eq a b

-- a socket is tied to a card anew where the card has another number than the one that it is tied
-- to; none is where any route will do
abbrev pub is_tie_due : Option ℕ → Option ℕ → Bool → Bool
is_tie_due card tied is_any_route = not is_any_route && not (same_number card tied)

-- the number of another card
abbrev pub other_index : ℕ → ℕ
other_index index = if index == 1 then 2 else 1

-- the system refuses a card for a socket that is tied to another one
abbrev pub is_refused : ErrorKind → Bool
is_refused kind.InvalidInput = true
is_refused _ = false

-- so a socket is tied to a card where it does not refuse this one, and refuses another
abbrev pub is_tied : ErrorKind → ErrorKind → Bool
is_tied own other = not (is_refused own) && is_refused other
