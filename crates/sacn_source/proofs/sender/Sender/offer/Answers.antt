use Rattle.std.proofs.Common.{◌∙◌, ap}
use Rattle.sacn_source.specs.Stands.{lane_universes}
use Rattle.sacn_source.proofs.SenderLemmas.{changes, lane_found, place_found}
use Rattle.sacn_source.proofs.sender.Sender.offer.Goals as goal

pub unwrap-place-requires : goal.unwrap-place-requires
unwrap-place-requires g c =
    place_found c.args.universe c.self.view_is c.self.invariant c.place_of.ensures c.requires.here

pub offer-requires : goal.offer-requires
offer-requires g c =
    let p = lane_found c.args.universe _ c.self.view_is c.self.invariant c.place_of.ensures
    c.unwrap-place.ensures c.index_mut.ensures.value in
    let required = rw p.at at c.requires in
    record { later = required.later; below = c.requires.below; live = required.live }

pub returns : goal.returns
returns g c =
    let p = lane_found c.args.universe _ c.self.view_is c.self.invariant c.place_of.ensures
    c.unwrap-place.ensures c.index_mut.ensures.value in
    let x = changes c.offer.new.self p c.offer.ensures.universe in
    rw (x.at, p.at) (record {
      universes = x.universes ∙ ap lane_universes c.self.view_is;
      stands = c.offer.ensures.stands;
      others = x.others;
      answer = c.offer.ensures.answer;
      told = c.offer.ensures.told;
      offered = λ who offers s. rw p.is at (c.offer.ensures.offered who offers s);
      earliest = c.offer.ensures.earliest;
      ended = c.offer.ensures.ended ∙ rw p.at at c.requires.live;
    })
