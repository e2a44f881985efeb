use Rattle.std.proofs.Common.{Ok, subst}
use Rattle.night_opening.specs.Fits.{IsFit}
use Rattle.cueplayer.proofs.reading.suitable_show.Goals as goal

pub returns-clause-fit : goal.returns-clause-fit
returns-clause-fit g =
    subst (λ bytes. IsFit g.args.night.now bytes (Ok tt)) g.as_slice.ensures.value
    g.in_ok-check_fit.ensures
