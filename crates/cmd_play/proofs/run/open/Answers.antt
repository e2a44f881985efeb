use Rattle.cmd_play.proofs.Terms.{◌∙◌, ap, Err, refl, of_its_show}
use Rattle.cmd_play.proofs.Beginning.{began}
use Rattle.cmd_play.proofs.run.open.Goals as goal

pub returns-in-Ok-clause-opened : goal.returns-in-Ok-clause-opened
returns-in-Ok-clause-opened g c =
    let show = c.in_ok-loaded.loaded.show in
    let begun = began c.args.show.now c.args.base show c.open.result _
    c.in_ok-loaded.ensures.faultless c.in_ok-loaded.ensures.show c.in-Ok.is
    c.open.ensures.universe in
    record {
      faultless = begun.0;
      numbered = begun.1;
      stands = of_its_show c.args.show.now _ show c.in_ok-loaded.ensures.show
          c.in-Ok.ensures.stands;
    }

pub returns-in-Err-Universe-clause-refused : goal.returns-in-Err-Universe-clause-refused
returns-in-Err-Universe-clause-refused g c =
    let lacks = of_its_show c.args.show.now _ c.in_ok-loaded.loaded.show
    c.in_ok-loaded.ensures.show (c.open.ensures.universe.0
    (c.in-Err-Universe.is ∙ ap (λ f. Err f) c.in-Err-Universe.field-0-is)) in
    (refl, (c.in_ok-loaded.ensures.faultless, lacks))
