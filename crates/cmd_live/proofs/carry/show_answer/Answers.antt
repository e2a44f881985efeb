use Rattle.std.proofs.Common.{◌≡◌, ◌∙◌, Bool, true, [], ap, sym}
use Rattle.std.specs.Prelude.{if◌then◌else◌}
use Rattle.cmd_play.specs.Perform.{text_of_answer}
use Rattle.cmd_live.specs.Shown.{is_shown, shown_answer}
use Rattle.cmd_live.proofs.Texts.{shown_by}
use Rattle.cmd_live.proofs.carry.show_answer.Goals as goal

pub returns-then-is_shown-clause-shows : goal.returns-then-is_shown-clause-shows
returns-then-is_shown-clause-shows g c = λ tells.
    let answer = c.args.answer.now in
    let is : is_shown answer ≡ true = sym c.is_shown.ensures ∙ c.if-is_shown.true in
    let text = c.as_bytes.ensures.value ∙ c.as_str.ensures.value ∙ c.line.ensures in
    let shown : shown_answer c.args.moment answer ≡ c.as_bytes.result.now =
    ap (λ (b : Bool). if b then text_of_answer c.args.moment answer else []) is ∙ sym text in
    rw shown (shown_by c.show.result _ _ _ _ _ c.show.ensures.ok c.show.ensures.err tells)
