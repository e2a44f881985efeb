use Rattle.std.proofs.Common.{ap, ◌∙◌, map}
use Rattle.std.specs.Prelude.{filter}
use Rattle.sacn_receiver.specs.Shown.{light_of, merged_slot}
use Rattle.sacn_receiver.specs.Records.{entries, is_live_at}
use Rattle.sacn_receiver.proofs.Merging.{shows}
use Rattle.sacn_receiver.proofs.receiver.Receiver.slots.Goals as goal

pub returns : goal.returns
returns c = rw (← c.self.view_is) (λ h s.
    shows _ h c.args.moment c.self.invariant (rw (← c.self.view_is) at c.requires) s
    c.merge.new.out c.merge.array_long (λ i lt. c.merge.ensures i lt
    ∙ ap (λ rs. merged_slot (map light_of (filter (is_live_at c.args.moment) (entries rs))) i)
    c.as_slice.ensures.value))
