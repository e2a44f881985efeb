use Rattle.std.proofs.Common.{◌∙◌, ap}
use Rattle.sacn_source.specs.Stands.{lane_universes}
use Rattle.sacn_source.proofs.SenderLemmas.{changes, lane_found, place_found}
use Rattle.sacn_source.proofs.sender.Sender.terminate.Goals as goal

pub unwrap-place-requires : goal.unwrap-place-requires
unwrap-place-requires g c =
    place_found c.args.universe c.self.view_is c.self.invariant c.place_of.ensures c.requires.here

pub terminate-requires : goal.terminate-requires
terminate-requires g c =
    let p = lane_found c.args.universe _ c.self.view_is c.self.invariant c.place_of.ensures
    c.unwrap-place.ensures c.index_mut.ensures.value in
    record { fewer = rw p.at at c.requires.fewer }

pub returns : goal.returns
returns g c =
    let p = lane_found c.args.universe _ c.self.view_is c.self.invariant c.place_of.ensures
    c.unwrap-place.ensures c.index_mut.ensures.value in
    let x = changes c.terminate.new.self p c.terminate.ensures.universe in
    rw (x.at, p.at) (record {
      universes = x.universes ∙ ap lane_universes c.self.view_is;
      stands = c.terminate.ensures.stands;
      others = x.others;
      answer = c.terminate.ensures.answer;
      told = c.terminate.ensures.told;
      offered = λ who offers n s. rw p.is at (c.terminate.ensures.offered who offers n s);
      earliest = c.terminate.ensures.earliest;
      ended = c.terminate.ensures.ended;
    })
