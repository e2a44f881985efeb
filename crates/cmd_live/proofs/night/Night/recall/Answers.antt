use Rattle.cmd_live.proofs.night.Night.recall.Goals as goal

pub returns-in-Some-clause-offers : goal.returns-in-Some-clause-offers
returns-in-Some-clause-offers g c = λ yes tells p happened stands.
    let given = (c.in-Some.ensures.recalls happened stands.input_stands).is_given in
    let did = c.perform-performed.ensures.performed p _ stands.console_stands tells in
    record {
      sends = did.sends;
      offers = did.offers;
      are_offered = rw given.spells did.are_offered;
      after_is = did.after_is;
    }
