use Rattle.std.proofs.Common.{◌∙◌, sym, []}
use Rattle.std.proofs.lemmas.List.{take_all}
use Rattle.std.proofs.lemmas.List.Elements.{All-push}
use Rattle.sacn_source.specs.Kept.{Lane}
use Rattle.sacn_source.specs.Stands.{LaneStands}
use Rattle.sacn_source.proofs.SenderLemmas.{earliest_is, ended_is, opened, universes_more}
use Rattle.sacn_source.proofs.sender.Sender.open.Goals as goal

pub loop-universe-preserved : goal.loop-universe-preserved
loop-universe-preserved c =
    let so_far = c.loop-universe.invariant in
    rw c.in_ok-push.ensures.items (record {
      universes = universes_more c.loop-universe.lanes.items c.new.result c.args.universes.now
          c.loop-universe.universe-index _ c.loop-universe-test.true c.new.ensures.universe
          so_far.universes;
      stand = All-push (λ (lane : Lane). LaneStands c.args.who lane [] 0) _ _ so_far.stand
          c.new.ensures.stands;
    })

pub invariant_of-result : goal.invariant_of-result
invariant_of-result c =
    let all = take_all c.loop-universe.universe-index c.args.universes.now
    c.loop-universe-test.false in
    c.in_ok-universes.ensures ∙ sym all ∙ sym c.loop-universe.invariant.universes

pub returns-clause-stands : goal.returns-clause-stands
returns-clause-stands c = λ universe here.
    let all = take_all c.loop-universe.universe-index c.args.universes.now
    c.loop-universe-test.false in
    opened c.args.who c.loop-universe.lanes.items c.args.universes.now universe
    (c.loop-universe.invariant.universes ∙ all) c.loop-universe.invariant.stand here

pub returns-clause-earliest : goal.returns-clause-earliest
returns-clause-earliest c = λ universe here.
    earliest_is c.args.who c.loop-universe.lanes.items universe [] 0
    (returns-clause-stands c universe here)

pub returns-clause-ended : goal.returns-clause-ended
returns-clause-ended c = λ universe here.
    ended_is c.args.who c.loop-universe.lanes.items universe [] 0
    (returns-clause-stands c universe here)
