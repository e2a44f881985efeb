use Rattle.std.proofs.Common.{◌≡◌, ◌∙◌, ◌++◌, ◌∷◌, [], refl, ap, arith}
use Rattle.link_notices.specs.declared.watch.PathWatch.{PathWatch}
use Rattle.link_notices.specs.Watches.{path_news, path_notice, path_watch}
use Rattle.link_notices.proofs.Looks.{one_all, one_more, place_all, pushed_more}
use Rattle.link_notices.proofs.link_watch.look_at_paths.Goals as goal

pub loop-place-preserved : goal.loop-place-preserved
loop-place-preserved c =
    let sources = c.args.look.now.sources.items in
    let watches = c.args.watches.now in
    let place = c.loop-place.place in
    let inside = rw c.as_slice-path-items.ensures.value at c.loop-place-test.true in
    let path = c.path-item.result in
    let is = rw c.as_slice-path-items.ensures.value at c.path-item.is in
    let told : path_notice place c.look-notice.result ≡ path_news sources watches (place, path)
    = rw (c.look-notice.ensures.notice, c.path_at-watch.ensures, c.path_look.ensures) refl in
    let watch : c.look-notice.new.self ≡ path_watch sources watches (place, path) =
    ap {B = PathWatch} (λ t. record { told = t })
    (rw (c.path_at-watch.ensures, c.path_look.ensures) at c.look-notice.ensures.told) in
    record {
      notices = pushed_more (path_news sources watches) c.loop-place.notices.items
          c.args.notices.now.items _ _ c.args.look.now.paths.items place path path inside
          c.loop-place.invariant.notices is told c.push_path.ensures.notices;
      room = omega (arith, c.push_path.ensures.room, c.loop-place.invariant.room);
      told = c.push.ensures.items ∙ ap (λ x. c.loop-place.after.items ++ x ∷ []) watch
          ∙ ap (λ x. c.loop-place.after.items ++ path_watch sources watches (place, x) ∷ [])
          is
          ∙ one_more (path_watch sources watches) c.loop-place.after.items
          c.args.look.now.paths.items place path
          inside c.loop-place.invariant.told;
    }

pub returns-clause-notices : goal.returns-clause-notices
returns-clause-notices c =
    place_all (path_news c.args.look.now.sources.items c.args.watches.now)
    c.loop-place.notices.items c.args.notices.now.items c.args.look.now.paths.items
    c.loop-place.place (rw c.as_slice-path-items.ensures.value at c.loop-place-test.false)
    c.loop-place.invariant.notices

pub returns-clause-told : goal.returns-clause-told
returns-clause-told c =
    one_all (path_watch c.args.look.now.sources.items c.args.watches.now)
    c.loop-place.after.items c.args.look.now.paths.items c.loop-place.place
    (rw c.as_slice-path-items.ensures.value at c.loop-place-test.false) c.loop-place.invariant.told
