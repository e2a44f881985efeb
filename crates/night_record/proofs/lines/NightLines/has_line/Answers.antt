use Rattle.std.proofs.Common.{◌∙◌}
use Rattle.night_record.specs.Coming.{unseen_bytes}
use Rattle.night_record.proofs.Ends.{has_newline}
use Rattle.night_record.proofs.lines.NightLines.has_line.Goals as goal

pub returns : goal.returns
returns c = c.is_some.ensures
    ∙ has_newline (unseen_bytes c.args.self.now) c.memchr.result c.memchr.ensures
