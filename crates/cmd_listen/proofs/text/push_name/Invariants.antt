use Rattle.cmd_listen.proofs.Terms.{◌≡◌, ◌++◌, take, flat_map, name_byte}
use Rattle.cmd_listen.proofs.text.push_name.Given as goal

-- the bytes so far
abbrev pub invariant-loop-byte : goal.invariant-loop-byte
invariant-loop-byte l =
    l.text.items ≡ l.fn.text.items ++ flat_map name_byte (take l.byte-index l.field)
