-- The source name of a data packet: a text of at most 63 bytes in a field of 64.
use Rattle.std.specs.Prelude.{ℕ, ◌<◌, ◌≤◌, ◌-◌, ◌==◌, List, ◌++◌, length, replicate, All}
use Rattle.std.specs.List.{before_first}

-- a text that the field can carry: a zero byte must follow it there, and none may stand in it
abbrev pub IsSourceName : List ℕ → Type 0
IsSourceName name = (length name ≤ 63) × All (λ byte. 0 < byte) name

-- the field of a name: its bytes, then zero bytes up to 64
abbrev pub padded_name : List ℕ → List ℕ
padded_name name = name ++ replicate (64 - length name) 0

-- the name in a field: the bytes before its first zero byte, or all of them where none is zero
abbrev pub name_in : List ℕ → List ℕ
name_in field = before_first (λ byte. byte == 0) field
