use Rattle.patch_core.proofs.Terms.{arith, IsBegin}
use Rattle.patch_core.proofs.Indexed.{places_more}
use Rattle.patch_core.proofs.index.begins_of.Goals as goal

pub loop-channel-preserved : goal.loop-channel-preserved
loop-channel-preserved c = record {
  each = omega (arith, c.in_ok-push.ensures.len, c.loop-channel.invariant.each);
  places = rw c.in_ok-push.ensures.items
      (places_more (IsBegin c.args.sorted.now) c.loop-channel.begins.items c.loop-channel.channel
      c.first_of.result
      c.loop-channel.invariant.each c.first_of.ensures c.loop-channel.invariant.places);
}
