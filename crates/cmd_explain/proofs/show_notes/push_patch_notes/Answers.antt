use Rattle.cmd_explain.proofs.Terms.{◌≡◌, ◌++◌, OnOk, true, false, cond, ap, sym, subst, length}
use Rattle.cmd_explain.proofs.Terms.{arith, nat_lt, nat_tests, Tables, dark_notes, no_patch_note}
use Rattle.cmd_explain.proofs.Terms.{patch_notes}
use Rattle.std.specs.FinMap as maps
use Rattle.cmd_explain.proofs.show_notes.push_patch_notes.Goals as goal

some_patch : (show : Tables) → nat_lt 0 (length (maps.entries show.patch)) ≡ true
    → dark_notes show ≡ patch_notes show
unfolding patch_notes
some_patch show some = sym (ap (λ b. cond b (dark_notes show) no_patch_note) some)

no_patch : (show : Tables) → nat_lt 0 (length (maps.entries show.patch)) ≡ false
    → no_patch_note ≡ patch_notes show
unfolding patch_notes
no_patch show none = sym (ap (λ b. cond b (dark_notes show) no_patch_note) none)

pub returns-then-is_empty : goal.returns-then-is_empty
returns-then-is_empty c =
    let none : nat_lt 0 (length (maps.entries c.args.show.now.patch)) ≡ false =
    grind (
      arith,
      nat_tests,
      c.is_empty.ensures,
      c.if-is_empty.true,
      ap length c.patch.ensures.entries,
    ) in
    subst (λ t. OnOk c.push_no_patch.result
    (c.push_no_patch.new.out.items ≡ c.args.out.now.items ++ t))
    (no_patch c.args.show.now none) c.push_no_patch.ensures

pub returns-else-is_empty : goal.returns-else-is_empty
returns-else-is_empty c =
    let some : nat_lt 0 (length (maps.entries c.args.show.now.patch)) ≡ true =
    grind (
      arith,
      nat_tests,
      c.is_empty.ensures,
      c.if-is_empty.false,
      ap length c.patch.ensures.entries,
    ) in
    subst (λ t. OnOk c.push_dark.result (c.push_dark.new.out.items ≡ c.args.out.now.items ++ t))
    (some_patch c.args.show.now some) c.push_dark.ensures
