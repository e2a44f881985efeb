use Rattle.cmd_cues.proofs.Terms.{◌∙◌, ap, sym, length}
use Rattle.std.specs.FinMap as maps
use Rattle.cmd_cues.proofs.cue_rows.channel_count.Goals as goal

pub returns : goal.returns
returns c = ap length c.pairs.ensures.entries ∙ sym (maps.len-entries c.args.levels.now)
