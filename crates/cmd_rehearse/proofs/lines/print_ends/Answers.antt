use Rattle.std.proofs.Common.{[], get_or, ap, ◌∙◌, refl}
use Rattle.devices.specs.Tape.{with_more}
use Rattle.sacn_receiver.specs.Replies.{end_line}
use Rattle.cmd_rehearse.specs.Texts.{end_lines}
use Rattle.cmd_rehearse.proofs.Printing.{ends_left, next_end, no_end, printing_all}
use Rattle.cmd_rehearse.proofs.Printing.{printing_more, printing_none, printing_stops}
use Rattle.cmd_rehearse.proofs.lines.print_ends.Goals as goal

pub loop-receiver-init : goal.loop-receiver-init
loop-receiver-init g c =
    let lines = end_lines c.args.last.now in
    record { told = λ tells. tells; printing = printing_none lines lines _ _ refl }

pub loop-receiver-preserved : goal.loop-receiver-preserved
loop-receiver-preserved g c =
    let i = c.loop-receiver.receiver in
    let last = c.args.last.now in
    let line = c.as_bytes.ensures.value ∙ c.as_str.ensures.value ∙ c.end_line.ensures in
    let so_far = c.loop-receiver.invariant in
    record {
      told = λ tells. so_far.told (c.in_ok-write.ensures.told tells);
      printing = printing_more (end_lines last) (ends_left i last) _
          (end_line i (get_or last i [])) _ _ _ _ _ so_far.printing
          (next_end last i c.loop-receiver-test.true) c.in_ok-write.ensures.told
          (λ tells. c.in_ok-write.ensures.ok tells ∙ ap (with_more _) line);
    }

pub returns-in_err-write-clause-lines : goal.returns-in_err-write-clause-lines
returns-in_err-write-clause-lines g c = λ tells.
    let i = c.loop-receiver.receiver in
    let last = c.args.last.now in
    printing_stops c.from_residual.result (end_lines last) (ends_left i last) _ _ _ _ _ _
    c.from_residual.ensures.0 c.loop-receiver.invariant.printing
    (next_end last i c.loop-receiver-test.true) (c.in_err-write.ensures.told tells)
    (c.in_err-write.ensures.err tells)

pub returns-clause-lines : goal.returns-clause-lines
returns-clause-lines g c =
    let i = c.loop-receiver.receiver in
    let last = c.args.last.now in
    printing_all (end_lines last) (ends_left i last) _ _ _ c.loop-receiver.invariant.printing
    (no_end last i c.loop-receiver-test.false)
