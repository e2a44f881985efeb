use Rattle.std.proofs.Common.{◌≡◌, ◌==◌, [], Option, None, refl, sym, ap, ◌∙◌, inl}
use Rattle.wire_world.proofs.Terms.{position, option_map_or, Shelf}
use Rattle.wire_world.proofs.Linked.{gone_released, push_put, rest_changed, set_put}
use Rattle.wire_world.proofs.shelves.release.Goals as goal

pub returns-in-Some : goal.returns-in-Some
returns-in-Some c =
    let put = set_put c.args.shelves.now c.args.universe c.in-Some.i _ c.index-shelves-i.result
    c.release.new.self (sym c.place_of.ensures ∙ c.in-Some.is) refl c.release.ensures.universe in
    record {
      rest = λ u all. rest_changed put u all (λ b. all) refl (c.release.ensures.rest all);
      gone = gone_released put c.args.low c.release.ensures.gone;
      left = rw put.own_after c.release.ensures.left;
    }

-- no packet of the universe is kept
pub returns-in_default-clause-left : goal.returns-in_default-clause-left
returns-in_default-clause-left c =
    let u = c.args.universe in
    let shelves = c.args.shelves.now in
    let missed : position (λ (s : Shelf). s.universe == u) shelves ≡ None =
    sym c.place_of.ensures ∙ c.in_default.is in
    let none = push_put shelves u (record { universe = u; gone = 0; packets = [] }) missed refl in
    inl (ap (λ (o : Option Shelf). option_map_or (λ s. s.packets) o []) none.own)
