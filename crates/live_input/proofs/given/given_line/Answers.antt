use Rattle.live_input.proofs.Terms.{ap, ◌∙◌, Some}
use Rattle.console.specs.Spelling as spelling
use Rattle.live_input.proofs.Spelled.{reading_is}
use Rattle.live_input.proofs.given.given_line.Goals as goal

pub returns : goal.returns
returns c = record {
  text_is = c.input_line.ensures;
  spells = reading_is c.args.moment c.args.words.now c.requires.below
      ∙ ap (spelling.reading_at (Some c.args.moment)) c.requires.spells;
  below = c.requires.below;
}
