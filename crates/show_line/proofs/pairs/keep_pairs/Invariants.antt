use Rattle.show_line.proofs.Terms.{◌≡◌, ◌-◌, ◌++◌, array_vec_len, words_left, desk_limits}
use Rattle.show_line.proofs.Terms.{pair_fault, pairs_in}
use Rattle.show_line.proofs.pairs.keep_pairs.Given as goal

-- the pairs so far have no fault, and are kept
abbrev pub invariant-loop-words : goal.invariant-loop-words
invariant-loop-words l = record {
  fault : pair_fault desk_limits (words_left l.initial.words) ≡ pair_fault desk_limits
      (words_left l.words);
  pairs : pairs_in (words_left l.initial.words) ≡ l.kept.items ++ pairs_in (words_left l.words);
}

abbrev pub decreases-loop-words : goal.decreases-loop-words
decreases-loop-words l = 16 - array_vec_len l.kept
