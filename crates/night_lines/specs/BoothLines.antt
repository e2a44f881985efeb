-- What is told of what an operator types.
use Rattle.std.specs.Prelude.{ℕ, List, codes}

-- that keys were left out of a typed line
abbrev pub keys_ignored_line : List ℕ
keys_ignored_line = codes "keys ignored\n"
