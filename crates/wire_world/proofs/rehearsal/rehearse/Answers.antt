use Rattle.std.proofs.Common.{sym, subst}
use Rattle.wire_world.specs.Promised.{IsRehearsed}
use Rattle.wire_world.specs.Widened.{happenings}
use Rattle.wire_world.proofs.Terms.{world_of}
use Rattle.wire_world.proofs.Refusals.{no_fault}
use Rattle.wire_world.proofs.rehearsal.rehearse.Goals as goal

pub returns-in-Ok-report : goal.returns-in-Ok-report
returns-in-Ok-report g c =
    let r = c.args in
    let w = world_of r.shows.now r.consoles.now r.receivers.now r.strays.now in
    let all = subst (IsRehearsed w (happenings r.events.now)) (sym c.in-Ok-report.ensures)
    (rw (c.as_slice-events.ensures.value, c.in-Ok.ensures)
    at c.in_ok-compact.ensures.rehearsed) in
    record {
      faults = rw (no_fault _ _ c.in_ok-compact.ensures.faults) tt;
      world = all.world;
      few = all.few;
      replies = all.came.replies;
      last = all.came.last;
      headline = all.promised.headline;
      unpatched = all.promised.unpatched;
      window_law = all.promised.window_law;
      merge_law = all.promised.merge_law;
      independent = all.promised.independent;
    }
