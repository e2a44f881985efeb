use Rattle.std.proofs.Common.{◌∙◌}
use Rattle.ascii_text.proofs.Marks.{first_byte}
use Rattle.ascii_text.proofs.scan.position_or_len.Goals as goal

pub returns-clause-place : goal.returns-clause-place
returns-clause-place c = c.unwrap_or.ensures ∙ first_byte c.args.mark c.args.bytes.now
    c.memchr.result c.memchr.ensures
