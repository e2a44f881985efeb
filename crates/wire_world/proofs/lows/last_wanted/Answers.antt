use Rattle.std.proofs.Common.{arith}
use Rattle.wire_world.proofs.Terms.{slice_get-get_or, slice_get_within}
use Rattle.wire_world.proofs.Wants.{up_to_next}
use Rattle.wire_world.proofs.lows.last_wanted.Goals as goal

pub loop-i-preserved : goal.loop-i-preserved
loop-i-preserved c =
    let at = slice_get-get_or c.args.events.now c.loop-i.i _ c.loop-i-test.true in (
      up_to_next c.args.events.now c.loop-i.last c.max-last.result c.loop-i.i _ at
          (omega (arith, c.max-last.ensures)) (λ r i u k is. omega
          (arith, c.max-last.ensures, c.packet_wanted.ensures.up_to r i u k is))
          c.loop-i.invariant.0,
      λ last up. let least = c.packet_wanted.ensures.least last (up c.loop-i.i _ at) in
          omega (arith, c.max-last.ensures, c.loop-i.invariant.1 last up, least),
    )

pub returns : goal.returns
returns c = record {
  up_to = λ j e g. c.loop-i.invariant.0 j e
      (omega (arith, slice_get_within c.args.events.now j e g, c.loop-i-test.false)) g;
  least = c.loop-i.invariant.1;
}
