use Rattle.cmd_explain.proofs.Terms.{◌≡◌, drop, opening_line}
use Rattle.cmd_explain.proofs.openings.Openings.line_of.Given as goal

-- the openings that are left have what all openings have of a record
abbrev pub invariant-loop-opening : goal.invariant-loop-opening
invariant-loop-opening l =
    opening_line l.which l.self.list.items
    ≡ opening_line l.which (drop l.opening-index l.self.list.items)
