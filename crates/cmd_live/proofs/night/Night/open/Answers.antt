use Rattle.std.proofs.Common.{refl}
use Rattle.cmd_play.proofs.Beginning.{of_each}
use Rattle.cmd_live.proofs.night.Night.open.Goals as goal

pub returns-clause-opened : goal.returns-clause-opened
returns-clause-opened g c =
    let opened = c.in_ok-console.ensures.opened in
    record {
      faultless = opened.faultless;
      numbered = opened.numbered;
      stands = of_each c.args.show.now _ _ opened.stands (λ s stands. record {
        console_stands = stands;
        input_stands = c.new.ensures.stands;
      });
      ready = record { none_typed = c.new.ensures.empty; none_lost = refl };
    }
