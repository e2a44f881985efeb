use Rattle.live_input.proofs.Terms.{subst, sym, words_of, Request, without_keys}
use Rattle.live_input.proofs.Answering.{close_leaves, dim_leaves, line_asks}
use Rattle.live_input.proofs.Asked.{Meets, request_meets}
use Rattle.live_input.proofs.KeyLemmas.{keys_short}
use Rattle.live_input.proofs.Spelled.{call_is}
use Rattle.live_input.proofs.progress.Progress.answer.Goals as goal

pub given_line-requires-clause-short : goal.given_line-requires-clause-short
given_line-requires-clause-short c =
    let line = c.args.line.now in
    let meets = subst (λ (r : Request). Meets c.is_on.result c.args.now line r)
    (sym c.in-Order.ensures) (request_meets c.is_on.result c.args.now line) in
    rw (c.as_slice-text.ensures.value, c.without_keys-text.ensures)
    (keys_short c.args.now line meets.1)

pub given_line-requires-clause-spells : goal.given_line-requires-clause-spells
given_line-requires-clause-spells c =
    let line = c.args.line.now in
    let meets = subst (λ (r : Request). Meets c.is_on.result c.args.now line r)
    (sym c.in-Order.ensures) (request_meets c.is_on.result c.args.now line) in
    rw (c.as_slice-text.ensures.value, c.without_keys-text.ensures)
    (call_is (words_of (without_keys line)) c.in-Order.instruction meets.2)

pub returns-in-Leave-clause-leaves : goal.returns-in-Leave-clause-leaves
returns-in-Leave-clause-leaves c = λ given leaves.
    let line = c.args.line.now in
    rw (line_asks _ c.args.now line given _ _ leaves c.is_on.ensures c.in-Leave.ensures)
    (close_leaves _ c.args.now line given (c.close.ensures.leaves given leaves))

pub returns-in-Finish-clause-leaves : goal.returns-in-Finish-clause-leaves
returns-in-Finish-clause-leaves c = λ given leaves.
    let line = c.args.line.now in
    rw (line_asks _ c.args.now line given _ _ leaves c.is_on.ensures c.in-Finish.ensures)
    (dim_leaves _ c.args.now line given (c.dim.ensures.leaves given leaves))
