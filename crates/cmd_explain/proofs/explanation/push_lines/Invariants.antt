use Rattle.cmd_explain.proofs.Terms.{◌≡◌, ◌++◌, flat_map, map, take, text_line, display_text}
use Rattle.cmd_explain.proofs.explanation.push_lines.Given as goal

abbrev pub invariant-loop-line : goal.invariant-loop-line
invariant-loop-line l =
    l.text.items
    ≡ l.fn.text.items
    ++ flat_map text_line (map (λ line. display_text line.items) (take l.line-index l.lines))
