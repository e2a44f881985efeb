use Rattle.live_input.proofs.Terms.{◌≡◌, ◌≤◌, ◌++◌, length, drop, text_from, without_keys}
use Rattle.live_input.proofs.keys.without_keys.Given as goal

-- what was looked at gave the text so far, and the rest goes on from here
abbrev pub invariant-loop-byte : goal.invariant-loop-byte
invariant-loop-byte l =
    (without_keys l.line ≡ l.text.items ++ text_from l.part (drop l.byte-index l.line))
    × (length l.text.items ≤ l.byte-index)
