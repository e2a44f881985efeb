use Rattle.show_line.proofs.Terms.{◌≡◌, ◌-◌, ◌++◌, array_vec_len, words_left, desk_limits}
use Rattle.show_line.proofs.Terms.{triple_fault, triples_in}
use Rattle.show_line.proofs.triples.keep_triples.Given as goal

-- the triples so far have no fault, and are kept
abbrev pub invariant-loop-words : goal.invariant-loop-words
invariant-loop-words l = record {
  fault : triple_fault desk_limits (words_left l.initial.words) ≡ triple_fault desk_limits
      (words_left l.words);
  triples : triples_in (words_left l.initial.words) ≡ l.kept.items
      ++ triples_in (words_left l.words);
}

abbrev pub decreases-loop-words : goal.decreases-loop-words
decreases-loop-words l = 8 - array_vec_len l.kept
