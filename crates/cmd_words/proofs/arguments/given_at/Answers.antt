use Rattle.clap.specs.Words.{found_of}
use Rattle.cmd_words.proofs.Texts.{text_is}
use Rattle.cmd_words.proofs.arguments.given_at.Goals as goal

pub returns : goal.returns
returns c = text_is c.get_str.result (found_of c.args.matches.now) c.args.id.now c.get_str.ensures
