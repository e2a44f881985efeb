use Rattle.cmd_explain.proofs.Terms.{refl, part_with_time}
use Rattle.cmd_explain.proofs.PartLists.{change_last_is}
use Rattle.cmd_explain.proofs.cue_parts.set_time.Goals as goal

pub returns : goal.returns
returns c =
    change_last_is (part_with_time c.args.time) c.args.parts.now.items c.push.new.self.items
    c.pop.new.self.items c.in-Some.part _ c.in-Some.ensures.items c.in_ok-push.ensures.items
    (rw c.set.ensures refl)
