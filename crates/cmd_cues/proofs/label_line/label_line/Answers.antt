use Rattle.cmd_cues.proofs.Terms.{◌∙◌, ap, sym, label_news_of}
use Rattle.cmd_cues.proofs.Labelling.{opening_news}
use Rattle.cmd_cues.proofs.label_line.label_line.Goals as goal

pub returns-in-Opens : goal.returns-in-Opens
returns-in-Opens c = λ r kind.
    c.label.ensures r kind ∙ opening_news r c.in-Opens.opened kind c.args.owner c.args.line.now
    ∙ ap (λ s. label_news_of r kind c.args.owner s c.args.line.now) (sym c.in-Opens.is)
