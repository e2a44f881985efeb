use Rattle.std.proofs.Common.{◌+◌, ◌∷◌, ◌++◌, [], refl, take, ◌∙◌, ◌≤◌, arith, if◌then◌else◌}
use Rattle.wire_world.proofs.Linked.{rest_kept, gone_same, push_put, rest_changed, set_put}
use Rattle.wire_world.proofs.shelves.keep.Goals as goal

pub returns-in_ok-keep-in-Some : goal.returns-in_ok-keep-in-Some
returns-in_ok-keep-in-Some c =
    let put = set_put c.args.shelves.now.items c.args.row.universe c.in-Some.i
    c.index_mut.result.now _ _ (rw (← c.as_slice.ensures.value, ← c.place_of.ensures) c.in-Some.is)
    c.index_mut.ensures.value c.in_ok-keep-in-Some.ensures.universe in
    record {
      rest = λ u all. rest_changed put u (take (c.args.last + 1) all)
          (λ b. take (c.args.last + 1) (if b then all ++ c.args.row.bytes.items ∷ [] else all)) refl
          (c.in_ok-keep-in-Some.ensures.rest all);
      gone = gone_same put c.in_ok-keep-in-Some.ensures.gone;
    }

pub returns-in_ok-push-in-None : goal.returns-in_ok-push-in-None
returns-in_ok-push-in-None c =
    let few : 0 ≤ c.args.last = omega arith in
    let put = push_put c.args.shelves.now.items c.args.row.universe _
    (rw (← c.as_slice.ensures.value, ← c.place_of.ensures) c.in-None.is) refl in
    let one = c.in_ok-push_back-in-None.ensures ∙ rw c.new-packets.ensures refl in
    rw c.in_ok-push-in-None.ensures.items (record {
      rest = λ u all. rest_changed put u (take (c.args.last + 1) all)
          (λ b. take (c.args.last + 1) (if b then all ++ c.args.row.bytes.items ∷ [] else all)) refl
          (λ r. rw one (rest_kept c.args.last 0 [] all c.args.row.bytes.items few r));
      gone = gone_same put refl;
    })
