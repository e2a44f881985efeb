use Rattle.cmd_explain.proofs.Terms.{◌≡◌, ◌==◌, map, take, filter, last_times, part_of}
use Rattle.cmd_explain.proofs.part_notes.last_times.Given as goal

abbrev pub invariant-loop-part : goal.invariant-loop-part
invariant-loop-part l =
    l.last ≡ last_times (filter (λ p. p.cue == l.cue) (map part_of (take l.part-index l.parts)))
