use Rattle.std.proofs.Common.{◌≡◌, ◌∙◌, ◌++◌, refl, ap, arith}
use Rattle.link_notices.specs.Watches.{path_again, path_notice}
use Rattle.link_notices.proofs.Looks.{place_all, pushed_more}
use Rattle.link_notices.proofs.link_watch.paths_again.Goals as goal

pub loop-place-preserved : goal.loop-place-preserved
loop-place-preserved c =
    let again = path_again c.args.look.now.sources.items c.args.watches.now in
    let path = c.path-item.result in
    let told : path_notice c.loop-place.place c.again-notice.result
    ≡ again (c.loop-place.place, path)
    = rw (c.again-notice.ensures, c.path_at.ensures, c.has_link.ensures) refl in
    record {
      notices = pushed_more again c.loop-place.notices.items c.args.notices.now.items _ _
          c.args.look.now.paths.items c.loop-place.place path path
          (rw c.as_slice-path-items.ensures.value at c.loop-place-test.true)
          c.loop-place.invariant.notices
          (rw c.as_slice-path-items.ensures.value at c.path-item.is) told
          c.push_path.ensures.notices;
      room = omega (arith, c.push_path.ensures.room, c.loop-place.invariant.room);
    }

pub returns : goal.returns
returns c =
    place_all (path_again c.args.look.now.sources.items c.args.watches.now)
    c.loop-place.notices.items c.args.notices.now.items c.args.look.now.paths.items
    c.loop-place.place (rw c.as_slice-path-items.ensures.value at c.loop-place-test.false)
    c.loop-place.invariant.notices
