use Rattle.std.proofs.Common.{refl, ap, ◌∙◌}
use Rattle.std.specs.Prelude.{count_by}
use Rattle.sacn_receiver.specs.Records.{kept_entry, is_live_at}
use Rattle.sacn_receiver.proofs.Merging.{counts_live}
use Rattle.sacn_receiver.proofs.receiver.Receiver.live.Goals as goal

pub returns : goal.returns
returns c = rw (← c.self.view_is) (λ h s.
    counts_live _ h c.args.moment c.self.invariant (rw (← c.self.view_is) at c.requires) s
    c.self.inside.records.items c.count_live.result refl
    (c.count_live.ensures ∙ ap (count_by (λ r. is_live_at c.args.moment (kept_entry r)))
    c.as_slice.ensures.value))
