use Rattle.std.proofs.Common.{sym}
use Rattle.night_opening.proofs.Fitting.{fits}
use Rattle.night_opening.proofs.fit.check_fit.Goals as goal

pub returns-in-Ok : goal.returns-in-Ok
returns-in-Ok c =
    fits c.args.night.now c.args.text.now c.in-Ok.loaded.show c.check_universes.result
    c.in-Ok.ensures.show (rw (sym c.universes.ensures) c.check_universes.ensures)
