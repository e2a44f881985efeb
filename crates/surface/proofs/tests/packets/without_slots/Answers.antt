use Rattle.std.proofs.Common.{sym, arith}
use Rattle.std.proofs.lemmas.List.{length-take-le}
use Rattle.surface.proofs.tests.packets.without_slots.Goals as goal

pub slice_bounds-copy_from_slice-end-2 : goal.slice_bounds-copy_from_slice-end-2
slice_bounds-copy_from_slice-end-2 g c =
    sym (length-take-le 126 c.one_lamp-whole.result (omega (arith, c.one_lamp-whole.ensures)))

pub copy_from_slice-requires : goal.copy_from_slice-requires
copy_from_slice-requires g c =
    sym (length-take-le 126 c.one_lamp-whole.result (omega (arith, c.one_lamp-whole.ensures)))
