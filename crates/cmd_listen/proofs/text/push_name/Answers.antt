use Rattle.cmd_listen.proofs.Terms.{◌∙◌, name_byte}
use Rattle.cmd_listen.proofs.Texts.{told_more}
use Rattle.cmd_listen.proofs.text.push_name.Goals as goal

pub loop-byte-preserved : goal.loop-byte-preserved
loop-byte-preserved c =
    c.in_ok-push_shown.ensures
    ∙ told_more name_byte c.loop-byte.text.items c.args.text.now.items c.args.field.now
    c.loop-byte.byte-index 0 c.loop-byte-test.true c.loop-byte.invariant
