use Rattle.std.proofs.Common.{refl}
use Rattle.night_record.proofs.Coming.{after_forget}
use Rattle.night_record.proofs.lines.NightLines.forget_line.Goals as goal

pub returns-clause-whole : goal.returns-clause-whole
returns-clause-whole c text given few s =
    after_forget c.args.self.now _ text given c.requires refl c.clear.ensures refl refl refl s
