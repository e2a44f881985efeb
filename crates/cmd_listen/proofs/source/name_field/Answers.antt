use Rattle.cmd_listen.proofs.Terms.{refl, drop-replicate}
use Rattle.cmd_listen.proofs.Lists.{take_min}
use Rattle.cmd_listen.proofs.source.name_field.Goals as goal

pub returns : goal.returns
returns c = rw (c.copy_from_slice.ensures.after, c.min.ensures, drop-replicate)
    (rw (take_min 64 c.args.name.now) refl)
