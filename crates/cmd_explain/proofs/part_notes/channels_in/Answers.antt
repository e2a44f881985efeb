use Rattle.cmd_explain.proofs.Terms.{◌≡◌, ◌==◌, arith, subst, IfOk, list_any, channels_in}
use Rattle.cmd_explain.proofs.Terms.{is_marked}
use Rattle.cmd_explain.proofs.PartLists.{same_below}
use Rattle.cmd_explain.proofs.part_notes.channels_in.Goals as goal

pub returns : goal.returns
unfolding channels_in
returns c =
    subst (λ ns. IfOk c.list_of.result (λ list. list.items ≡ ns))
    (same_below (is_marked c.marked_channels-listed.result)
    (λ channel. list_any (λ pair. pair.0 == channel) c.args.pairs.now) 1 4096
    (λ x within. c.marked_channels-listed.ensures x (omega (arith, within))))
    c.list_of.ensures
