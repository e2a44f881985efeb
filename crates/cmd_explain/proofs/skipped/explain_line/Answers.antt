use Rattle.cmd_explain.proofs.Terms.{◌≡◌, ◌∙◌, ◌++◌, ◌+◌, List, ℕ, true, false, length, Some, sym}
use Rattle.cmd_explain.proofs.Terms.{ap, append-nil, words_of, desk_limits, line_reading, owner_of}
use Rattle.cmd_explain.proofs.Terms.{heading_below, reason_of, skipped_line, skipped_line_below}
use Rattle.cmd_explain.proofs.Terms.{words_in}
use Rattle.cmd_explain.proofs.Lines.{skipped_line_here}
use Rattle.cmd_explain.proofs.skipped.explain_line.Goals as goal
use Rattle.cmd_explain.proofs.skipped.explain_line.Goals.{After-may_own, else-is_skipped}
use Rattle.cmd_explain.proofs.skipped.explain_line.Goals.{then-is_skipped+in_ok-push_skipped_line}

-- what was appended explains the line
appended : (c : After-may_own) (lines : List (List ℕ))
    → c.args.above ≡ heading_below (words_in lines)
    → c.args.line.number ≡ length lines + 1
    → c.if-is_skipped.out.items
    ≡ c.args.out.now.items ++ skipped_line_below lines c.args.line.bytes.now
appended c lines heads numbered =
    let before : List ℕ = c.args.out.now.items in
    let bytes : List ℕ = c.args.line.bytes.now in
    let l = words_of bytes in
    let reading = c.in-Some.reading in
    let read : Some reading ≡ line_reading desk_limits (owner_of c.args.above) l =
    c.in-Some.ensures.means ∙ ap (λ o. line_reading desk_limits o l) c.owner.ensures in
    let here = skipped_line_here lines bytes c.args.above heads reading read c.args.line.number in
    elim c.if-is_skipped.branch [
      | then-is_skipped+in_ok-push_skipped_line w ↦
          ap (λ v. v.items) w.out-is ∙ w.in_ok-push_skipped_line.ensures
          ∙ ap (λ r. before ++ skipped_line c.args.line.number r bytes)
          (w.reason_of-reason.ensures
          ∙ ap (reason_of c.args.above reading.keyword) w.operands.ensures)
          ∙ ap (λ text. before ++ text)
          (here true numbered (sym c.is_skipped.ensures ∙ w.if-is_skipped.true))
      | else-is_skipped w ↦
          ap (λ v. v.items) w.out-is ∙ sym (append-nil before)
          ∙ ap (λ text. before ++ text)
          (here false numbered (sym c.is_skipped.ensures ∙ w.if-is_skipped.false))
    ]

pub returns-then-may_own-clause-text : goal.returns-then-may_own-clause-text
returns-then-may_own-clause-text c =
    appended (goal.at.returns-then-may_own-clause-text c).After-may_own

pub returns-else-may_own-clause-text : goal.returns-else-may_own-clause-text
returns-else-may_own-clause-text c =
    appended (goal.at.returns-else-may_own-clause-text c).After-may_own
