-- A line of the system's table of neighbors.
use Rattle.std.specs.Prelude.{◌≡◌, ℕ, ◌+◌, Bool, false, ◌&&◌, List, Option, Some, None, min, All}
use Rattle.std.specs.Prelude.{fold, if◌then◌else◌}
use Rattle.std.specs.Net.Addr.{ipv4_octets}
use Rattle.std.specs.Net.Grammar.{IsIpv4Text}
use Rattle.network_tables.specs.Fields.{field, flags_of}
use Rattle.network_tables.specs.Routes.{is_set}
use Rattle.network_tables.specs.Tables.{has_address}
use Rattle.network_tables.specs.declared.neighbor.Neighbor.{Neighbor}

-- a line is that of a neighbor: the address is its first field, and its third is flags, of which
-- that of worth 2 says that it answered
pub record IsNeighbor (line : List ℕ) (neighbor : Neighbor) : Type 0 where
  pub address : IsIpv4Text (field 0 line) neighbor.address
  pub flags : ℕ
  pub flags_are : flags_of (field 2 line) ≡ Some flags
  pub answered : neighbor.has_answered ≡ is_set 2 flags

-- at how many looks one behind the other a neighbor did not answer, up to 2
abbrev pub silence_after : ℕ → Bool → ℕ
silence_after silence has_answered = if has_answered then 0 else min (silence + 1) 2

-- a row of the table is that of who takes the packets of a way first
abbrev pub is_of_taker : Option (List ℕ) → Neighbor → Bool
is_of_taker taker row = has_address (ipv4_octets row.address) taker

-- the silence of the first taker after a row: one of another machine says nothing of it, and while
-- the card has no link none does
abbrev pub silence_by : Neighbor → Option (List ℕ) → Bool → ℕ → ℕ
silence_by row taker has_link silence =
    if has_link && is_of_taker taker row then silence_after silence row.has_answered else silence

-- who takes the packets first changes: another machine counts as silent as the one before it, until
-- it is known to answer; where this machine takes them itself nobody is silent
abbrev pub silence_toward : Option (List ℕ) → ℕ → ℕ
silence_toward (Some taker) silence = silence
silence_toward None silence = 0

-- a row says that the first taker answered
abbrev pub is_answer : Option (List ℕ) → Neighbor → Bool
is_answer taker row = is_of_taker taker row && row.has_answered

-- A SILENT WAY. Whichever machine takes its packets first from now on, it stays silent until a row
-- says that this one answered
abbrev pub SilenceLaw : Type 0
SilenceLaw = (taker : List ℕ) (has_link : Bool) (rows : List Neighbor)
    → All (λ row. is_answer (Some taker) row ≡ false) rows
    → fold (λ silence row. silence_by row (Some taker) has_link silence)
    (silence_toward (Some taker) 2) rows ≡ 2
