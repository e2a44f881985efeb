use Rattle.std.proofs.Common.{◌≡◌, ◌<◌, length, rules, arith, sym, ◌∙◌}
use Rattle.std.proofs.lemmas.Grind.{common_steps}
use Rattle.ascii_text.proofs.Parts.{tail_is, no_word, next_word}
use Rattle.ascii_text.proofs.text.WordsIterator.next.Goals as goal

pub returns-then-is_empty-clause-steps : goal.returns-then-is_empty-clause-steps
returns-then-is_empty-clause-steps c =
    let tail = tail_is c.self.inside.rest.now c.separators.result in
    let empty : length c.split_at.result.0.now ≡ 0 = grind (arith, common_steps) in
    let none = no_word _ _ _ _ tail c.separators.ensures.count c.word_end.ensures.place
    (rw c.split_at.ensures.front at empty) in
    (sym c.self.view_is ∙ none.0, rw c.split_at.ensures.back none.1)

pub returns-clause-steps : goal.returns-clause-steps
returns-clause-steps c =
    let tail = tail_is c.self.inside.rest.now c.separators.result in
    let some : 0 < length c.split_at.result.0.now = grind (arith, common_steps) in
    let word = next_word _ _ _ _ tail c.separators.ensures.count c.word_end.ensures.place
    (rw c.split_at.ensures.front at some) in
    sym c.self.view_is ∙ rw (c.split_at.ensures.front, c.split_at.ensures.back) word

pub returns-clause-goes : goal.returns-clause-goes
returns-clause-goes c = let steps = returns-clause-steps c in search rules
