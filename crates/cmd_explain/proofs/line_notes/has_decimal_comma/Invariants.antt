use Rattle.cmd_explain.proofs.Terms.{◌≡◌, ◌-◌, drop, has_decimal_comma}
use Rattle.cmd_explain.proofs.line_notes.has_decimal_comma.Given as goal

abbrev pub invariant-loop-end : goal.invariant-loop-end
invariant-loop-end l =
    has_decimal_comma l.line ≡ has_decimal_comma (drop (l.end - 2) l.line)
