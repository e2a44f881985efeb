use Rattle.std.proofs.Common.{◌≡◌, ℕ, List, [], ◌∷◌, true, false, refl, sym, arith}
use Rattle.std.specs.Prelude.{find}
use Rattle.std.proofs.lemmas.Bool.Decides.{nat_tests}
use borrow.Author.Tests.{lt-ltb, le-ltb}
use Rattle.sacn_packet.specs.Faults.{applies, fault_of}
use Rattle.sacn_packet.specs.declared.unreadable.Unreadable.TheVariants.{Short, Preamble}
use Rattle.sacn_packet.specs.declared.unreadable.Unreadable.TheVariants.{Identifier, RootVector}
use Rattle.sacn_packet.specs.declared.unreadable.Unreadable.TheVariants.{Length, FramingVector}
use Rattle.sacn_packet.specs.declared.unreadable.Unreadable.TheVariants.{Priority, Universe, Dmp}
use Rattle.sacn_packet.specs.declared.unreadable.Unreadable.TheVariants.{Count}
use Rattle.sacn_packet.proofs.reader.fault_in.Goals as goal

-- where none of the first six faults applies, it is the first of the other four
late : (d : List ℕ) → applies d Short ≡ false → false ≡ applies d Preamble
    → false ≡ applies d Identifier → false ≡ applies d RootVector → false ≡ applies d Length
    → false ≡ applies d FramingVector
    → fault_of d ≡ find (applies d) (Priority ∷ Universe ∷ Dmp ∷ Count ∷ [])
late d short preamble identifier root lengths framing =
    rw (short, ← preamble, ← identifier, ← root, ← lengths, ← framing) refl

pub returns-then-datagram-gt200 : goal.returns-then-datagram-gt200
returns-then-datagram-gt200 c =
    let six = late c.args.datagram.now (le-ltb _ _ c.if-datagram-lt126.false)
    c.if-differs_from.ensures c.if-has_other_identifier.ensures c.if-differs_from-2.ensures
    c.if-has_bad_lengths.ensures c.if-differs_from-3.ensures in
    rw (six, lt-ltb _ _ c.if-datagram-gt200.true) refl

pub returns-then-not-contains : goal.returns-then-not-contains
returns-then-not-contains c =
    let six = late c.args.datagram.now (le-ltb _ _ c.if-datagram-lt126.false)
    c.if-differs_from.ensures c.if-has_other_identifier.ensures c.if-differs_from-2.ensures
    c.if-has_bad_lengths.ensures c.if-differs_from-3.ensures in
    let universe : applies c.args.datagram.now Universe ≡ true = grind (arith, nat_tests) in
    rw (six, le-ltb _ _ c.if-datagram-gt200.false, universe) refl

pub returns-then-has_other_form : goal.returns-then-has_other_form
returns-then-has_other_form c =
    let six = late c.args.datagram.now (le-ltb _ _ c.if-datagram-lt126.false)
    c.if-differs_from.ensures c.if-has_other_identifier.ensures c.if-differs_from-2.ensures
    c.if-has_bad_lengths.ensures c.if-differs_from-3.ensures in
    let form = sym c.if-has_other_form.ensures in
    let universe : applies c.args.datagram.now Universe ≡ false = grind (arith, nat_tests) in
    rw (six, le-ltb _ _ c.if-datagram-gt200.false, universe, form) refl

pub returns-then-has_bad_count : goal.returns-then-has_bad_count
returns-then-has_bad_count c =
    let six = late c.args.datagram.now (le-ltb _ _ c.if-datagram-lt126.false)
    c.if-differs_from.ensures c.if-has_other_identifier.ensures c.if-differs_from-2.ensures
    c.if-has_bad_lengths.ensures c.if-differs_from-3.ensures in
    let universe : applies c.args.datagram.now Universe ≡ false = grind (arith, nat_tests) in
    rw (six, le-ltb _ _ c.if-datagram-gt200.false, universe, ← c.if-has_other_form.ensures)
    (rw (← c.if-has_bad_count.ensures) refl)

pub returns-else-has_bad_count : goal.returns-else-has_bad_count
returns-else-has_bad_count c =
    let universe : applies c.args.datagram.now Universe ≡ false = grind (arith, nat_tests) in
    let six = late c.args.datagram.now (le-ltb _ _ c.if-datagram-lt126.false)
    c.if-differs_from.ensures c.if-has_other_identifier.ensures c.if-differs_from-2.ensures
    c.if-has_bad_lengths.ensures c.if-differs_from-3.ensures in
    rw (six, le-ltb _ _ c.if-datagram-gt200.false, universe, ← c.if-has_other_form.ensures)
    (rw (← c.if-has_bad_count.ensures) refl)
