use Rattle.cmd_cues.proofs.Terms.{◌≡◌, ◌∙◌, ap, sym, length}
use Rattle.std.specs.FinMap as maps
use Rattle.cmd_cues.proofs.cue_rows.cue_row.Goals as goal

pub returns : goal.returns
returns c =
    let levels = c.args.cue.now.levels in
    let channels : length c.pairs.result.now ≡ maps.len levels =
    ap length c.pairs.ensures.entries ∙ sym (maps.len-entries levels) in
    cc
