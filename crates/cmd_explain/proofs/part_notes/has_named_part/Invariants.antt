use Rattle.cmd_explain.proofs.Terms.{◌≡◌, ◌==◌, false, map, take, filter, is_some, list_any}
use Rattle.cmd_explain.proofs.Terms.{part_of}
use Rattle.cmd_explain.proofs.part_notes.has_named_part.Given as goal

-- none of those before has a name
abbrev pub invariant-loop-part : goal.invariant-loop-part
invariant-loop-part l =
    list_any (λ p. is_some p.name)
    (filter (λ p. p.cue == l.cue) (map part_of (take l.part-index l.parts))) ≡ false
