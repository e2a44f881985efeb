use Rattle.desk_core.proofs.Terms.{rules}
use Rattle.desk_core.proofs.desk.carry_out.Goals as goal

pub returns-in_err-go-in-Plain-Go-clause-answer : goal.returns-in_err-go-in-Plain-Go-clause-answer
returns-in_err-go-in-Plain-Go-clause-answer g c _ s = search (rules, c.go.ensures.answer _ _ s)

pub returns-in_err-back-in-Plain-Back-clause-answer : goal.returns-in_err-back-in-Plain-Back-clause-answer
returns-in_err-back-in-Plain-Back-clause-answer g c _ s = search (rules, c.back.ensures.answer _ _ s)

pub returns-in_ok-go-in-Plain-Go-clause-answer : goal.returns-in_ok-go-in-Plain-Go-clause-answer
returns-in_ok-go-in-Plain-Go-clause-answer g c _ s = search (rules, c.go.ensures.answer _ _ s)

pub returns-in_ok-back-in-Plain-Back-clause-answer : goal.returns-in_ok-back-in-Plain-Back-clause-answer
returns-in_ok-back-in-Plain-Back-clause-answer g c _ s = search (rules, c.back.ensures.answer _ _ s)
