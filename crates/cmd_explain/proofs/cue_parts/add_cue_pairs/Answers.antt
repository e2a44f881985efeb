use Rattle.cmd_explain.proofs.Terms.{ap, part_of, part_with_pairs}
use Rattle.cmd_explain.proofs.PartLists.{change_last_is}
use Rattle.cmd_explain.proofs.cue_parts.add_cue_pairs.Goals as goal

pub returns : goal.returns
returns c =
    change_last_is (part_with_pairs c.args.pairs) c.args.parts.now.items c.push.new.self.items
    c.pop.new.self.items c.in-Some.part _ c.in-Some.ensures.items c.in_ok-push.ensures.items
    (ap (λ ps. record (part_of c.in-Some.part) { pairs = ps }) c.in_ok-append_to.ensures.ok)
