use Rattle.cmd_cues.proofs.Terms.{◌≡◌, ◌++◌, codes, flat_map, take, string_byte}
use Rattle.cmd_cues.proofs.json.push_string.Given as goal

abbrev pub invariant-loop-byte : goal.invariant-loop-byte
invariant-loop-byte l =
    l.text.items
    ≡ (l.fn.text.items ++ codes "\"") ++ flat_map string_byte (take l.byte-index l.bytes)
