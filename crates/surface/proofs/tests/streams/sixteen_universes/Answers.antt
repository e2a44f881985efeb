use Rattle.std.proofs.Common.{◌≡◌, ◌≤◌, arith, refl}
use Rattle.surface.proofs.Lanes.{still_none}
use Rattle.surface.proofs.tests.streams.sixteen_universes.Goals as goal

pub offer-requires-2-clause-later : goal.offer-requires-2-clause-later
offer-requires-2-clause-later g c =
    omega (
      arith,
      still_none _ _ _ (c.offer.ensures.others 63999 (omega arith))
          (c.in_ok-sender.ensures.earliest 63999 (15, omega arith, refl)),
    )

pub offer-requires-2-clause-live : goal.offer-requires-2-clause-live
offer-requires-2-clause-live g c =
    still_none _ _ _ (c.offer.ensures.others 63999 (omega arith))
    (c.in_ok-sender.ensures.ended 63999 (15, omega arith, refl))
