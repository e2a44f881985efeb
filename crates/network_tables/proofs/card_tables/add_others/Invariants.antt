use Rattle.std.proofs.Common.{◌≡◌, List}
use Rattle.arrayvec.specs.declared.array_string.ArrayString.{ArrayString}
use Rattle.byte_reading.proofs.SoFar.{SoFar}
use Rattle.network_tables.specs.CardTables.{AreNamed, with_others}
use Rattle.network_tables.proofs.card_tables.add_others.Given as goal

-- the cards of the lines so far
abbrev pub invariant-loop : goal.invariant-loop
invariant-loop g l =
    let B = g.B.BlockSource in
    SoFar B.left B.may_fail l.initial.table l.table l.counter
    (λ lines. (names : List (ArrayString 15)) × AreNamed lines names
    × (l.cards.rows.items ≡ with_others l.initial.cards.rows.items names))
