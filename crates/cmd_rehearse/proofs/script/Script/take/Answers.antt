use Rattle.cmd_rehearse.proofs.Reading.{fits}
use Rattle.cmd_rehearse.proofs.script.Script.take.Goals as goal

pub add-requires : goal.add-requires
add-requires c = fits c.read_line-said.result _ c.args.line.bytes.now _ _ c.read_line-said.ensures
    c.requires
