use Rattle.std.proofs.Common.{sym, arith, slice_set}
use Rattle.std.proofs.lemmas.List.{length-set, length-take-le}
use Rattle.surface.proofs.tests.packets.renumber_and_refill.Goals as goal

pub slice_bounds-eq-end : goal.slice_bounds-eq-end
slice_bounds-eq-end g c =
    sym (length-take-le 126 c.refill.new.packet (omega (arith, c.refill.array_long)))

pub slice_bounds-eq-end-2 : goal.slice_bounds-eq-end-2
slice_bounds-eq-end-2 g c =
    let wanted = c.one_lamp-wanted.result in
    sym (length-take-le 126 _ (omega (
      arith,
      length-set (slice_set wanted 111 5) 112 64,
      length-set wanted 111 5,
      c.one_lamp-wanted.ensures,
    )))
