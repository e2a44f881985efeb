use Rattle.std.proofs.Common.{refl, subst, sym}
use Rattle.wire_world.specs.Wanted.{AreUpTo}
use Rattle.wire_world.proofs.Terms.{IfOk-weaker, world_of}
use Rattle.wire_world.proofs.Events.{begun, sources}
use Rattle.wire_world.proofs.perform.perform.Goals as goal

pub run-requires-clause-begun : goal.run-requires-clause-begun
run-requires-clause-begun g c = (
  (let r = c.args in world_of r.shows.now r.consoles.now r.receivers.now r.strays.now),
  refl,
  rw (c.as_mut_slice.ensures.value, c.as_mut_slice-2.ensures.value)
      (begun c.args.strays.now c.in_ok-stages.ensures.opened c.in_ok-listeners.ensures),
)

pub returns : goal.returns
returns g c =
    let r = c.args in
    let start = begun r.strays.now c.in_ok-stages.ensures.opened c.in_ok-listeners.ensures in
    let are = rw (← c.as_mut_slice.ensures.value, ← c.as_mut_slice-2.ensures.value) at start in
    record {
      report = IfOk-weaker c.run.result _ _ (λ report h. h (world_of r.shows.now r.consoles.now r.receivers.now r.strays.now) refl are) c.run.ensures;
      sources = IfOk-weaker c.run.result _ _
          (λ report h. sources g.F.Fader.stands_for c.in_ok-stages.stages.items
          r.shows.now r.consoles.now c.in_ok-stages.ensures.opened) c.run.ensures;
    }

pub run-requires-clause-wanted : goal.run-requires-clause-wanted
run-requires-clause-wanted g c = rw c.as_mut_slice.ensures.value (λ i d l.
    subst (AreUpTo c.args.events.now) (sym (c.in_ok-stages.ensures.last i d l))
    c.last_wanted-last.ensures.up_to)
