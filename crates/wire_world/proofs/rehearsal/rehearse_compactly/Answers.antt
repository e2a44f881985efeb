use Rattle.std.proofs.Common.{length, ap, sym, ◌∙◌}
use Rattle.wire_world.specs.Promised.{IsPromised}
use Rattle.wire_world.proofs.Terms.{result_err, world_of}
use Rattle.wire_world.proofs.Shown.{answers_alone, means, merges, near, silence, was_shown, zero}
use Rattle.wire_world.proofs.Refusals.{all_within, fine_world, universes_there}
use Rattle.wire_world.proofs.rehearsal.rehearse_compactly.Goals as goal

pub perform-requires-clause-universes : goal.perform-requires-clause-universes
perform-requires-clause-universes g c = let r = c.args in
    universes_there r.shows.now r.consoles.now r.receivers.now
    (sym c.check.ensures ∙ ap result_err c.in_ok-check.was)

pub perform-requires-clause-within : goal.perform-requires-clause-within
perform-requires-clause-within g c = let r = c.args in
    all_within (length r.strays.now) r.events.now c.requires.within

pub returns-in-Ok : goal.returns-in-Ok
returns-in-Ok g c =
    let r = c.args in
    let w = world_of r.shows.now r.consoles.now r.receivers.now r.strays.now in
    let events = r.events.now in
    let none = sym c.check.ensures ∙ ap result_err c.in_ok-check.was in
    let fine = fine_world r.shows.now r.consoles.now r.receivers.now r.strays.now none
    c.in-Ok.ensures.sources in
    let are = c.in-Ok.ensures.report.replies in
    let last = c.in-Ok.ensures.report.last in
    let at = was_shown w events _ _ are last in
    let promised : IsPromised w events c.in-Ok.report = record {
      headline = λ r i t past slots shown one fresh. let k = at r t past slots shown in
          k.are ∙ means w fine.0 r past k.run one.no_stray t k.time i one.window one.alone fresh;
      unpatched = λ r i t slot past slots shown one fresh below none.
          let k = at r t past slots shown in rw k.are
          (zero w fine.0 r past k.run one.no_stray t k.time i one.window one.alone fresh slot below
          none);
      window_law = λ r i t past slots shown one.
          let k = at r t past slots shown in rw k.are (
            near w fine.0 r past k.run one.no_stray t k.time i one.window one.alone,
            silence w fine.0 r past k.run one.no_stray t k.time i one.window one.alone,
          );
      merge_law = λ r t slot past slots shown all settled below. let k = at r t past slots shown in
          rw k.are (merges w fine.0 r past k.run t k.time all settled slot below);
      independent = answers_alone w events _ fine.0 are fine.1;
    } in
    record {
      faults = rw none tt;
      rehearsed = record {
        world = fine.0;
        few = fine.1;
        came = c.in-Ok.ensures.report;
        promised = promised;
      };
    }
