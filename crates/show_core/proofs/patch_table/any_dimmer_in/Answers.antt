use Rattle.show_core.proofs.Terms.{◌≡◌, ℕ, ◌≤◌, length, false, sym, ap, ◌∙◌, arith, nat_lt, nat_tests}
use Rattle.std.specs.Prelude.{◌==◌}
use Rattle.show_core.proofs.Ordinals.{decided, passed}
use Rattle.show_core.proofs.patch_table.any_dimmer_in.Goals as goal

pub returns-then-at-entries : goal.returns-then-at-entries
returns-then-at-entries c =
    let at = c.first_in-at.result in
    let first = c.first_in-at.ensures in
    ap (λ n. n == c.args.ordinal) c.ordinal_of.ensures
    ∙ sym (decided c.args.entries.now c.args.ordinal at c.requires first.below (0, (0, 0))
    c.if-at-entries.true (first.from_on at (0, (0, 0)) (omega arith) c.if-at-entries.true))

not_below : (i n : ℕ) → n ≤ i → nat_lt i n ≡ false
not_below i n le = grind (arith, nat_tests)

pub returns-else-at-entries : goal.returns-else-at-entries
returns-else-at-entries c =
    let gone = passed c.args.entries.now c.args.ordinal c.first_in-at.result c.requires
    c.first_in-at.ensures.below c.if-at-entries.false in
    not_below c.first_in-at.result (length c.args.entries.now) c.if-at-entries.false ∙ sym gone
