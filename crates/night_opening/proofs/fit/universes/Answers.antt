use Rattle.std.proofs.Common.{◌≡◌, ◌<◌, ◌+◌, ap, arith, false, get_or, length, refl}
use Rattle.std.proofs.lemmas.Bool.Decides.{nat_tests}
use Rattle.night_opening.specs.Fits.{have_numbers, universes}
use Rattle.night_opening.proofs.Fitting.{no_number}
use Rattle.night_opening.proofs.fit.universes.Goals as goal

pub returns-then-universe-gt63999 : goal.returns-then-universe-gt63999
returns-then-universe-gt63999 c =
    let base = c.args.base in
    let ordinals = c.args.ordinals.now.items in
    let at = c.loop-ordinal.ordinal-index in
    let within : at < length ordinals = omega (
      arith,
      c.loop-ordinal-test.true,
      ap length c.as_slice-ordinal-items.ensures.value,
    ) in
    let over : 63999 < base + get_or ordinals at 0 =
    grind (
      arith,
      nat_tests,
      c.if-universe-gt63999.true,
      c.from.ensures,
      c.from-in-loop-ordinal.ensures,
    ) in
    let lacks : have_numbers (universes base ordinals) ≡ false =
    no_number base ordinals at within over in
    rw lacks refl
