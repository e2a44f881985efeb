use Rattle.desk_core.proofs.Terms.{rules, ◌∙◌}
use Rattle.desk_core.specs.Stands.{keeps_floors}
use Rattle.desk_core.proofs.Drawn.{floors_stay, floors_same}
use Rattle.desk_core.proofs.desk.Desk.order.Goals as goal

pub returns-clause-stands : goal.returns-clause-stands
returns-clause-stands g c = rw (← c.self.view_is) (λ show base history stands. record {
  show_is = search rules;
  base_is = search rules;
  playback_stands = search rules;
  masters_stand = search rules;
  moment_is = search rules;
  tick_is = search rules;
  ended_is = search rules;
  frames_are = search rules;
  floors_are = λ kept channel is.
      let parts = floors_stay c.self.inside.floor_state (keeps_floors c.args.instruction)
      (rw c.state_after-self-inside.ensures at kept) in
      stands.floors_are parts.0 channel is
      ∙ floors_same show history c.args.moment channel c.args.instruction parts.1;
  kept = search rules;
})
