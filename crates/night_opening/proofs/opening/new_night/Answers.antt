use Rattle.std.proofs.Common.{[]}
use Rattle.night_opening.proofs.opening.new_night.Goals as goal

pub returns-in-Ok-clause-follows : goal.returns-in-Ok-clause-follows
returns-in-Ok-clause-follows g c =
    let stands = c.in-Ok.ensures.opened.stands in (
      c.in-Ok.ensures.opened.ready,
      (
        _,
        record { lines = []; stands = stands.1 stands.0.0 stands.0.1; are_recalled = tt },
      ),
    )
