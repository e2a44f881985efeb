use Rattle.desk_core.proofs.Terms.{◌≡◌, ◌+◌, take, map}
use Rattle.desk_core.proofs.desk.universe_numbers.Given as goal

-- the numbers of the ordinals so far
abbrev pub invariant-loop-ordinal : goal.invariant-loop-ordinal
invariant-loop-ordinal l = l.numbers.items ≡ map (λ ordinal. l.base + ordinal)
    (take l.ordinal-index l.ordinal-items)
