use Rattle.std.proofs.Common.{◌≡◌, List, map}
use Rattle.wire_world.proofs.Terms.{range_with_len, shown_slots, Happening, World, accepted_by, AllHear}
use Rattle.wire_world.proofs.showing.show_all.Given as goal

abbrev pub invariant-loop-i : goal.invariant-loop-i
invariant-loop-i l = (w : World) (past : List Happening) → AllHear l.receivers w past
    → l.shown.items ≡ map (λ r. shown_slots (accepted_by w r past) l.moment) (range_with_len 0 l.i)
