use Rattle.std.proofs.Common.{◌≡◌, ◌++◌, map, take}
use Rattle.cmd_explain.specs.Skipped.{display_byte}
use Rattle.remarks.proofs.remark.push_all.Given as goal

abbrev pub invariant-loop-byte : goal.invariant-loop-byte
invariant-loop-byte l =
    l.remark.items ≡ l.fn.remark.items ++ map display_byte (take l.byte-index l.fitting)
