-- Tapes grow at their end.
use Rattle.std.proofs.Common.{◌≡◌, List, [], ◌++◌, ap, append_assoc, append-nil}
use Rattle.devices.specs.Tape.{Tape, with_more}

abbrev with_items : {X : Type 0} → Tape X → List X → Tape X
with_items tape items = record { items = items; failures = tape.failures }

-- more and then more
pub with_more-twice : {X : Type 0} (tape : Tape X) (xs ys : List X)
    → with_more (with_more tape xs) ys ≡ with_more tape (xs ++ ys)
with_more-twice tape xs ys = ap (with_items tape) (append_assoc tape.items xs ys)

-- no more
pub with_more-none : {X : Type 0} (tape : Tape X) → with_more tape [] ≡ tape
with_more-none tape = ap (with_items tape) (append-nil tape.items)
