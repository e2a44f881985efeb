use Rattle.std.proofs.Common.{sym, arith}
use Rattle.std.proofs.lemmas.List.{length-take-le}
use Rattle.surface.proofs.tests.packets.look_one.Goals as goal

pub slice_bounds-eq-end : goal.slice_bounds-eq-end
slice_bounds-eq-end g c =
    sym (length-take-le 53 c.one_lamp-packet.result (omega (arith, c.one_lamp-packet.ensures)))
