use Rattle.show_line.proofs.Terms.{◌≡◌, arith, result_err, common_steps, number_fault}
use Rattle.show_line.proofs.Lowest.{err_of, lower_assoc, lower_none}
use Rattle.show_line.proofs.triples.keep_triples.Goals as goal

pub returns-in_default-next-clause-fault : goal.returns-in_default-next-clause-fault
returns-in_default-next-clause-fault c =
    let channel : result_err c.number_in-channel.result
    ≡ number_fault 0 4096 c.in_ok-next.field-0.now =
    err_of c.in_ok-next.field-0.now _ _ c.number_in-channel.ensures in
    let dimmer : result_err c.number_in-dimmer.result
    ≡ number_fault 1 8192 c.in-Some.dimmer.now =
    err_of c.in-Some.dimmer.now _ _ c.number_in-dimmer.ensures in
    grind (arith, common_steps, lower_assoc, lower_none, channel, dimmer)

pub returns-in_default-2-clause-fault : goal.returns-in_default-2-clause-fault
returns-in_default-2-clause-fault c =
    let channel : result_err c.number_in-channel.result
    ≡ number_fault 0 4096 c.in_ok-next.field-0.now =
    err_of c.in_ok-next.field-0.now _ _ c.number_in-channel.ensures in
    let dimmer : result_err c.number_in-dimmer.result
    ≡ number_fault 1 8192 c.in-Some.dimmer.now =
    err_of c.in-Some.dimmer.now _ _ c.number_in-dimmer.ensures in
    grind (arith, common_steps, lower_assoc, lower_none, channel, dimmer)
