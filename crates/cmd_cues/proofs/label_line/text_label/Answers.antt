use Rattle.cmd_cues.proofs.Terms.{◌∙◌, ap, sym, Quiet, label_news_of}
use Rattle.cmd_cues.proofs.Labelling.{quiet_news, text_news}
use Rattle.cmd_cues.proofs.label_line.text_label.Goals as goal

pub returns-then-begins_with_word : goal.returns-then-begins_with_word
returns-then-begins_with_word c = λ r kind.
    let line = c.args.line.now in
    c.label.ensures r kind
    ∙ text_news r c.in-Some.of kind line
    (sym c.begins_with_word.ensures ∙ c.if-begins_with_word.true)
    ∙ ap (λ o. label_news_of r kind o Quiet line) (sym c.in-Some.is)

pub returns-else-begins_with_word : goal.returns-else-begins_with_word
returns-else-begins_with_word c = λ r kind.
    quiet_news r kind c.args.owner c.args.line.now
    (sym c.begins_with_word.ensures ∙ c.if-begins_with_word.false)
