use Rattle.show_core.proofs.Terms.{HasTimes}
use Rattle.show_core.proofs.Ranges.{value_in}
use Rattle.show_core.proofs.show.Show.cue.Goals as goal

pub cue-requires : goal.cue-requires
cue-requires c = value_in HasTimes c.self.inside.cues c.args.n c.self.invariant.times_in
