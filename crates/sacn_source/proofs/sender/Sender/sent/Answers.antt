use Rattle.std.proofs.Common.{◌∙◌, sym}
use Rattle.sacn_source.proofs.SenderLemmas.{is_there, lane_found, no_lane}
use Rattle.sacn_source.proofs.sender.Sender.sent.Goals as goal

pub returns-in-Some-clause-sent : goal.returns-in-Some-clause-sent
returns-in-Some-clause-sent c = λ who offers n s.
    let p = lane_found c.args.universe _ c.self.view_is c.self.invariant c.place_of.ensures
    c.in-Some.is c.index.ensures in
    c.packets_sent.ensures.value ∙ (rw p.at at s).paces.sent_is

pub returns-in-Some-clause-other : goal.returns-in-Some-clause-other
returns-in-Some-clause-other c = λ other.
    absurd (other (is_there (lane_found c.args.universe _ c.self.view_is c.self.invariant
    c.place_of.ensures c.in-Some.is c.index.ensures)))

pub returns-in-None-clause-sent : goal.returns-in-None-clause-sent
returns-in-None-clause-sent c = λ who offers n s.
    absurd (no_lane who c.self.inside.lanes.items c.args.self.now c.self.inside.universes
    c.args.universe offers n c.self.view_is c.self.invariant
    (sym c.place_of.ensures ∙ c.in-None.is) s)
