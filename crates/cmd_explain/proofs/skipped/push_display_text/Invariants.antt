use Rattle.cmd_explain.proofs.Terms.{◌≡◌, ◌++◌, map, take, display_byte}
use Rattle.cmd_explain.proofs.skipped.push_display_text.Given as goal

abbrev pub invariant-loop-byte : goal.invariant-loop-byte
invariant-loop-byte l =
    l.out.items ≡ l.fn.out.items ++ map display_byte (take l.byte-index l.bytes)
