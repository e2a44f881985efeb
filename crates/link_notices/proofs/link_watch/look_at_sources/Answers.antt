use Rattle.std.proofs.Common.{◌∙◌, ◌++◌, [], ap, arith}
use Rattle.std.proofs.lemmas.Grind.{common_steps}
use Rattle.link_notices.specs.declared.source.SourceState.TheVariants as source
use Rattle.link_notices.specs.Watches.{source_news, source_notice}
use Rattle.link_notices.proofs.Looks.{place_all, place_more}
use Rattle.link_notices.proofs.link_watch.look_at_sources.Goals as goal

pub loop-place-preserved : goal.loop-place-preserved
loop-place-preserved c =
    let watches = c.args.watches.now in
    let place = c.loop-place.place in
    let inside = rw c.as_slice-is-items.ensures.value at c.loop-place-test.true in
    let told = rw (c.source_at-watch.ensures, c.as_slice-is-items.ensures.value)
    at c.look-notice.ensures.notice in
    record {
      notices = c.push_source.ensures.notices
          ∙ ap (λ n. c.loop-place.notices.items ++ source_notice place n) told
          ∙ place_more (source_news watches) c.loop-place.notices.items []
          c.args.look.now.sources.items place source.Sends
          inside c.loop-place.invariant.notices;
      room = omega (arith, c.push_source.ensures.room, c.loop-place.invariant.room);
      told = grind (arith, common_steps);
    }

pub returns-clause-notices : goal.returns-clause-notices
returns-clause-notices c =
    place_all (source_news c.args.watches.now) c.loop-place.notices.items []
    c.args.look.now.sources.items c.loop-place.place
    (rw c.as_slice-is-items.ensures.value at c.loop-place-test.false)
    c.loop-place.invariant.notices
