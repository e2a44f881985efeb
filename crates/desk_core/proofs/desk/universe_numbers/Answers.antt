use Rattle.desk_core.proofs.Terms.{◌+◌, ℕ, ap, ◌∙◌, take, length, lit<, arith, map, take_all, take_more}
use Rattle.desk_core.proofs.Terms.{map-append, length-map, length-take-le, scaled_Fits}
use Rattle.desk_core.proofs.Universes.{numbers_are, number_fits}
use Rattle.desk_core.proofs.desk.universe_numbers.Goals as goal

pub overflow_add-base : goal.overflow_add-base
overflow_add-base c =
    omega (
      arith,
      number_fits c.args.show.now.patch c.args.base c.requires
          c.as_slice-ordinal-items.result.now (c.as_slice-ordinal-items.ensures.value
          ∙ c.universes-ordinals.ensures) c.loop-ordinal.ordinal-index c.loop-ordinal-test.true,
    )

pub returns : goal.returns
returns c =
    c.loop-ordinal.invariant
    ∙ ap (map (λ (ordinal : ℕ). c.args.base + ordinal))
    (take_all c.loop-ordinal.ordinal-index c.as_slice-ordinal-items.result.now (omega arith))
    ∙ numbers_are c.args.show.now.patch c.args.base c.as_slice-ordinal-items.result.now
    (c.as_slice-ordinal-items.ensures.value ∙ c.universes-ordinals.ensures)

pub offset_bounds-ordinal-items-ordinal-index : goal.offset_bounds-ordinal-items-ordinal-index
offset_bounds-ordinal-items-ordinal-index c = search scaled_Fits

pub loop-ordinal-preserved : goal.loop-ordinal-preserved
loop-ordinal-preserved c =
    let ordinals = c.as_slice-ordinal-items.result.now in
    let place = c.loop-ordinal.ordinal-index in
    rw (
      take_more ordinals place 0 c.loop-ordinal-test.true,
      map-append (λ (ordinal : ℕ). c.args.base + ordinal) (take place ordinals),
      ← c.loop-ordinal.invariant,
    ) c.push.ensures.items

pub push-requires : goal.push-requires
push-requires c =
    let ordinals = c.as_slice-ordinal-items.result.now in
    let place = c.loop-ordinal.ordinal-index in (
      lit< tt,
      omega (
        arith,
        ap length c.loop-ordinal.invariant,
        length-map (take place ordinals) (λ (ordinal : ℕ). c.args.base + ordinal),
        length-take-le place ordinals (omega (arith, c.loop-ordinal-test.true)),
        c.loop-ordinal-test.true,
        c.as_slice-ordinal-items.ensures.fits,
      ),
    )
