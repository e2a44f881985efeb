use Rattle.cmd_listen.proofs.Terms.{◌≡◌, ◌∙◌, ◌++◌, ap, sym, with_more, at, spelled_in, spelled_of}
use Rattle.cmd_listen.proofs.Terms.{arrived_text, text_spelled}
use Rattle.cmd_listen.proofs.print.take_line.Goals as goal

pub returns-in_ok-print-in-At-clause-stands : goal.returns-in_ok-print-in-At-clause-stands
returns-in_ok-print-in-At-clause-stands g c = λ w s.
    let is : at c.in-At.moment c.in-At.datagram.items ≡ spelled_in c.args.line.now =
    ap spelled_of (sym c.in-At.is) ∙ c.in_ok-read_line.ensures in
    let r = c.in_ok-take-in-At.ensures w s in
    rw (← is) (rw c.as_slice.ensures.value at r.0)

pub returns-in_ok-print-in-At-clause-printed : goal.returns-in_ok-print-in-At-clause-printed
returns-in_ok-print-in-At-clause-printed g c = λ w s tell.
    let is : at c.in-At.moment c.in-At.datagram.items ≡ spelled_in c.args.line.now =
    ap spelled_of (sym c.in-At.is) ∙ c.in_ok-read_line.ensures in
    let r = c.in_ok-take-in-At.ensures w s in
    let all = ap (λ l. l ++ arrived_text c.in-At.moment c.as_slice.result.now w)
    c.new-text.ensures.items in
    let d = ap (λ l. arrived_text c.in-At.moment l w) c.as_slice.ensures.value in
    c.in_ok-print-in-At.ensures.ok tell
    ∙ ap (λ l. with_more (g.W.Output.tape c.args.out.now) l)
    (c.as_slice-in-At.ensures.value ∙ r.1 ∙ all ∙ d ∙ ap (λ sp. text_spelled sp w) is)
