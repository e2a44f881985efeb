use Rattle.std.proofs.Common.{◌≡◌, ap, subst, ◌∙◌, List, ◌++◌, ℕ}
use Rattle.cmd_rehearse.specs.Printed.{PrintsLines}
use Rattle.cmd_rehearse.specs.Texts.{end_lines, event_lines, rehearsal_lines}
use Rattle.cmd_rehearse.proofs.Printing.{printed_both}
use Rattle.cmd_rehearse.proofs.lines.print_lines.Goals as goal

pub returns-clause-lines : goal.returns-clause-lines
returns-clause-lines g c = λ tells.
    let numbers = c.args.numbers.now in
    let report = c.args.report.now in
    let replies = c.as_slice.ensures.value ∙ ap (λ r. r.replies) c.report.view_is in
    let last = c.as_slice-2.ensures.value ∙ ap (λ r. r.last) c.report.view_is in
    let lines : event_lines numbers c.as_slice.result.now
    ++ end_lines c.as_slice-2.result.now
    ≡ rehearsal_lines numbers report.replies report.last =
    ap (λ rs. event_lines numbers rs ++ end_lines c.as_slice-2.result.now) replies
    ∙ ap (λ ss. event_lines numbers report.replies ++ end_lines ss) last in
    let before = g.W.Output.tape c.args.out.now in
    let after = g.W.Output.tape c.print_ends.new.out in
    subst (λ (ls : List (List ℕ)). PrintsLines c.print_ends.result ls before after) lines
    (printed_both c.print_ends.result _ _ before _ after
    (c.in_ok-print_replies.ensures.lines (c.print_ends.ensures.told tells))
    (c.print_ends.ensures.lines tells))
