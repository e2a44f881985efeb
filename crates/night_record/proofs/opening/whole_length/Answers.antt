use Rattle.night_record.proofs.Ends.{whole_at, whole_none}
use Rattle.night_record.proofs.opening.whole_length.Goals as goal

pub returns-in-Some : goal.returns-in-Some
returns-in-Some c = whole_at c.args.text.now c.in-Some.place c.in-Some.ensures

pub returns-in-None : goal.returns-in-None
returns-in-None c = whole_none c.args.text.now c.in-None.ensures
