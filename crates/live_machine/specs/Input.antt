-- What is waited for, and how long.
use Rattle.std.specs.Prelude.{◌≤◌, ◌-◌, ℕ, min, Bool, true, List, take, nat_eq, Result, Ok, Err}
use Rattle.std.specs.Prelude.{if◌then◌else◌}
use Rattle.std.specs.declared.io.ErrorKind.{ErrorKind}
use Rattle.std.specs.declared.io.ErrorKind.TheVariants as kind
use Rattle.live_machine.specs.declared.input.Came.{Came}
use Rattle.live_machine.specs.declared.input.Came.TheVariants.{Bytes, End, TypedEnd, Nothing}

-- what a wait brought: these bytes, an end, an end that was typed at a terminal, nothing; or it
-- failed
pub data Brought : Type 0 where
  bytes : List ℕ → Brought
  end : Brought
  typed_end : Brought
  nothing : Brought
  fault : Brought

-- one wait: for how many milliseconds at most, and what it brought
pub record Wait : Type 0 where
  pub most : ℕ
  pub brought : Brought

-- what is answered of a wait, with the block that has its bytes
abbrev pub brought_by : Came → List ℕ → Brought
brought_by (Bytes count) block = bytes (take count block)
brought_by End block = end
brought_by TypedEnd block = typed_end
brought_by Nothing block = nothing

-- a block has at most 4096 bytes
abbrev pub CameFits : Came → Type 0
CameFits (Bytes count) = count ≤ 4096
CameFits _ = Unit {0}

-- how long it is waited, in milliseconds: until what is due next, and not beyond; and for half a
-- second at most, since the network is looked at meanwhile
abbrev pub wait_for : ℕ → ℕ → ℕ
wait_for moment due = min (due - moment) 500

-- an end that was typed ends the input where the night ends with it
abbrev pub with_typed_end : Bool → Came → Came
with_typed_end true TypedEnd = End
with_typed_end ends came = came

-- what a read of the input brought: at a terminal an end was typed, and more may come; a read that
-- was interrupted brought nothing, and an input that cannot be read any more has ended
abbrev pub read_brought : Result ℕ ErrorKind → Bool → Came
read_brought (Ok count) is_terminal =
    if nat_eq count 0 then (if is_terminal then TypedEnd else End) else Bytes count
read_brought (Err kind.Interrupted) is_terminal = Nothing
read_brought (Err kind.WouldBlock) is_terminal = Nothing
read_brought (Err _) is_terminal = End
