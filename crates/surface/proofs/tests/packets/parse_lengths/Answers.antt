use Rattle.std.proofs.Common.{sym, arith}
use Rattle.std.proofs.lemmas.List.{length-take-le}
use Rattle.surface.proofs.tests.packets.parse_lengths.Goals as goal

pub slice_bounds-fault-end-2 : goal.slice_bounds-fault-end-2
slice_bounds-fault-end-2 g c =
    sym (length-take-le 125 c.one_lamp-whole.result (omega (arith, c.one_lamp-whole.ensures)))

pub slice_bounds-fault-end-3 : goal.slice_bounds-fault-end-3
slice_bounds-fault-end-3 g c =
    sym (length-take-le 637 c.one_lamp-whole.result (omega (arith, c.one_lamp-whole.ensures)))
