use Rattle.live_input.proofs.Terms.{◌≡◌, map, take, printable}
use Rattle.live_input.proofs.given.refused_text.Given as goal

abbrev pub invariant-loop-byte : goal.invariant-loop-byte
invariant-loop-byte l = l.text.items ≡ map printable (take l.byte-index l.looked)
