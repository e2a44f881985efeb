use Rattle.cmd_explain.proofs.Terms.{◌≡◌, ◌==◌, [], map, take, filter, part_of}
use Rattle.cmd_explain.proofs.part_notes.first_times.Given as goal

-- none of those before is of the cue
abbrev pub invariant-loop-part : goal.invariant-loop-part
invariant-loop-part l =
    filter (λ p. p.cue == l.cue) (map part_of (take l.part-index l.parts)) ≡ []
