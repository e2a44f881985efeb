use Rattle.std.proofs.Common.{sym}
use Rattle.std.proofs.lemmas.List.{take_all}
use Rattle.cmd_words.proofs.source.front.Goals as goal

pub returns-then-seen-le53-clause-front : goal.returns-then-seen-le53-clause-front
returns-then-seen-le53-clause-front c = sym (take_all 53 c.args.seen.now c.if-seen-le53.true)
