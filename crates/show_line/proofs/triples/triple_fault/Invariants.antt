use Rattle.show_line.proofs.Terms.{length, words_left, triple_fault}
use Rattle.show_line.specs.Pairs.{desk_limits as limits}
use Rattle.show_line.proofs.Lowest.{IsLowestSoFar}
use Rattle.show_line.proofs.triples.triple_fault.Given as goal

abbrev pub invariant-loop-channel : goal.invariant-loop-channel
invariant-loop-channel l =
    IsLowestSoFar (triple_fault limits) (words_left l.initial.words) (words_left l.words) l.lowest

abbrev pub decreases-loop-channel : goal.decreases-loop-channel
decreases-loop-channel l = length (words_left l.words)
