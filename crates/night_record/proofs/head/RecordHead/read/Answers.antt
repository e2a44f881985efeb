use Rattle.std.proofs.Common.{◌≡◌, ◌∙◌, sym, ap, subst, List, ℕ, unwrap_or}
use Rattle.std.proofs.lemmas.Bool.{true≢false}
use Rattle.night_record.specs.Head.{HasForm, head_text}
use Rattle.night_record.specs.declared.head.RecordHead.{RecordHead}
use Rattle.night_record.proofs.ReadBack.{head_there}
use Rattle.night_record.proofs.head.RecordHead.read.Goals as goal

pub returns-in_err-head-clause-back : goal.returns-in_err-head-clause-back
returns-in_err-head-clause-back c = λ head is e. c.from_residual.ensures ∙ sym c.in_err-head.was
    ∙ c.head_at_places.ensures ∙ head_there c.args.line.now head is e

pub returns-then-is_spelled_by-clause-form : goal.returns-then-is_spelled_by-clause-form
returns-then-is_spelled_by-clause-form c =
    (c.is_spelled_by.ensures.0 c.if-is_spelled_by.true).0

pub returns-then-is_spelled_by-clause-back : goal.returns-then-is_spelled_by-clause-back
returns-then-is_spelled_by-clause-back c = λ head is e. sym c.in_ok-head.was
    ∙ c.head_at_places.ensures ∙ head_there c.args.line.now head is e

pub returns-else-is_spelled_by-clause-back : goal.returns-else-is_spelled_by-clause-back
returns-else-is_spelled_by-clause-back c = λ head is e.
    let line : List ℕ = c.args.line.now in
    let same : c.in_ok-head.head ≡ head =
    ap (λ o. unwrap_or o head)
    (sym c.in_ok-head.was ∙ c.head_at_places.ensures ∙ head_there line head is e) in
    let spelled = c.is_spelled_by.ensures.1
    (subst (λ (h : RecordHead). HasForm h.started × (head_text h ≡ line)) (sym same) (is.6, e)) in
    absurd (true≢false (sym spelled ∙ c.if-is_spelled_by.false))
