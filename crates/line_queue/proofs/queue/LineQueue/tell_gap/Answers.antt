use Rattle.std.proofs.Common.{◌≡◌, refl, arith}
use Rattle.std.proofs.lemmas.Grind.{common_steps}
use Rattle.line_queue.specs.Notices.{notice_text}
use Rattle.line_queue.proofs.Accounting.{gap_told}
use Rattle.line_queue.proofs.queue.LineQueue.tell_gap.Goals as goal

pub returns-clause-stands : goal.returns-clause-stands
returns-clause-stands g c = λ tape given account.
    let old = c.args.self.now in
    let put : c.extend_from_slice.new.self.items ≡ notice_text old.notice old.dropped
    = grind (arith, common_steps) in
    gap_told old _ tape given (record {
      alive = c.requires;
      notice = refl;
      failure = refl;
    }) put refl
    c.saturating_add-self.ensures refl (grind (arith, common_steps)) (grind (arith, common_steps))
    account
