-- What an input over memory keeps, as contracts see it.
use Rattle.std.specs.Prelude.{ℕ, min, List, Option, Some, None, if◌then◌else◌, nat_eq, length}
use Rattle.live_machine.specs.Input.{Brought, Wait, brought_by, fault}
use Rattle.live_machine.specs.declared.input.Came.{Came}
use Rattle.live_machine.specs.declared.input.Came.TheVariants.{Bytes, End}
use Rattle.live_machine.specs.declared.memory.input.MemoryWait.{MemoryWait}

abbrev pub brought_of : Option Came → List ℕ → Brought
brought_of (Some came) block = brought_by came block
brought_of None block = fault

-- one wait
abbrev pub wait_of : MemoryWait → Wait
wait_of kept = record { most = kept.most; brought = brought_of kept.came kept.block.items }

-- a wait, by what was answered and the block behind it
abbrev pub wait_by : ℕ → Option Came → List ℕ → Wait
wait_by most came block = record { most = most; brought = brought_of came block }

-- how many bytes a wait gives of those that are left: at most so many, and no more than a block has
abbrev pub count_of : List ℕ → ℕ → ℕ
count_of left step = min (min (length left) step) 4096

-- what that is: bytes, or the end
abbrev pub came_of : ℕ → Came
came_of count = if nat_eq count 0 then End else Bytes count
