use Rattle.std.proofs.Common.{ap, sym}
use Rattle.sacn_receiver.specs.declared.answer.Ignored.TheVariants as receiver
use Rattle.sacn_receiver.specs.Replies.{ignored_name}
use Rattle.sacn_receiver.proofs.replies.unreadable_name.Goals as goal

pub returns-in-FramingVector-clause-name : goal.returns-in-FramingVector-clause-name
returns-in-FramingVector-clause-name c =
    ap (λ fault. ignored_name (receiver.Unreadable fault)) (sym c.in-FramingVector.is)
