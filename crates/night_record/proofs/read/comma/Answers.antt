use Rattle.std.proofs.Common.{◌∙◌}
use Rattle.ascii_text.proofs.Marks.{first_byte}
use Rattle.night_record.proofs.read.comma.Goals as goal

pub returns : goal.returns
returns c = c.unwrap_or.ensures ∙ first_byte 44 c.args.text.now c.memchr.result c.memchr.ensures
