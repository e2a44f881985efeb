use Rattle.std.proofs.Common.{◌≡◌, ap, sym, ◌∙◌}
use Rattle.std.specs.Iterator.Adapters.{zip_first, zip_second}
use Rattle.std.specs.Slice.Iter.{iter_rest}
use Rattle.cmd_rehearse.specs.Texts.{event_lines}
use Rattle.cmd_rehearse.proofs.Printing.{lines_left, next_line, no_line, printing_all}
use Rattle.cmd_rehearse.proofs.Printing.{printing_more, printing_none, printing_stops}
use Rattle.cmd_rehearse.proofs.lines.print_replies.Goals as goal

pub loop-number-init : goal.loop-number-init
loop-number-init g c =
    let it = c.zip-number-items.result in
    let numbers : iter_rest (zip_first it) ≡ c.args.numbers.now =
    ap iter_rest c.zip-number-items.ensures.first ∙ c.iter.ensures.rest in
    let replies : iter_rest (zip_second it) ≡ c.args.replies.now =
    c.zip-number-items.ensures.second.0 in
    let all : lines_left it ≡ event_lines c.args.numbers.now c.args.replies.now =
    ap (λ ns. event_lines ns (iter_rest (zip_second it))) numbers
    ∙ ap (event_lines c.args.numbers.now) replies in
    record {
      told = λ tells. tells;
      printing = printing_none _ _ _ _
          (sym (ap lines_left c.into_iter-number-iterator.ensures.into_iter_gives ∙ all));
    }

pub loop-number-preserved : goal.loop-number-preserved
loop-number-preserved g c =
    let so_far = c.loop-number.invariant in
    let next = next_line c.loop-number.number-iterator c.next.new.self c.next.result
    (c.in-Some.number, c.in-Some.reply) c.in-Some.is c.next.ensures.steps in
    record {
      told = λ tells. so_far.told (c.in_ok-print_reply.ensures.told tells);
      printing = printing_more _ _ _ _ _ _ _ _ _ so_far.printing next
          c.in_ok-print_reply.ensures.told c.in_ok-print_reply.ensures.ok;
    }

pub returns-in_err-print_reply-clause-lines : goal.returns-in_err-print_reply-clause-lines
returns-in_err-print_reply-clause-lines g c = λ tells.
    let next = next_line c.loop-number.number-iterator c.next.new.self c.next.result
    (c.in-Some.number, c.in-Some.reply) c.in-Some.is c.next.ensures.steps in
    printing_stops c.from_residual.result _ _ _ _ _ _ _ _ c.from_residual.ensures.0
    c.loop-number.invariant.printing next (c.in_err-print_reply.ensures.told tells)
    (c.in_err-print_reply.ensures.err tells)

pub returns-clause-lines : goal.returns-clause-lines
returns-clause-lines g c =
    printing_all _ _ _ _ _ c.loop-number.invariant.printing
    (no_line c.loop-number.number-iterator c.next.new.self c.next.result c.in-None.is
    c.next.ensures.steps)
