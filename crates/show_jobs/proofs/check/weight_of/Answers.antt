use Rattle.show_jobs.proofs.Checks.{weight_is}
use Rattle.show_jobs.proofs.check.weight_of.Goals as goal

pub returns-clause-weight : goal.returns-clause-weight
returns-clause-weight c =
    let loaded = c.in_ok-loaded.loaded in
    weight_is c.args.show.now loaded.lines loaded.show c.in_ok-weigh.field-0
    c.in_ok-loaded.ensures.show c.in_ok-loaded.ensures.lines c.in_ok-weigh.ensures
