-- What a device did, as contracts see it where it tells.
use Rattle.std.specs.Prelude.{ℕ, ◌+◌, List, ◌++◌}

-- what it took or gave, the first first, and how many of its calls failed
pub record Tape (X : Type 0) : Type 0 where
  pub items : List X
  pub failures : ℕ

-- these items, while so many calls failed
abbrev pub items_tape : {X : Type 0} → List X → ℕ → Tape X
items_tape items failures = record { items = items; failures = failures }

-- it took or gave these too, and no call failed
abbrev pub with_more : {X : Type 0} → Tape X → List X → Tape X
with_more tape more = record { items = tape.items ++ more; failures = tape.failures }

-- one call failed, and it took or gave nothing
abbrev pub with_failure : {X : Type 0} → Tape X → Tape X
with_failure tape = record { items = tape.items; failures = tape.failures + 1 }
