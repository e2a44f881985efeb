use Rattle.std.proofs.Common.{rules, ◌≡◌, false, nat_lt, refl, All}
use Rattle.std.proofs.lemmas.List.Elements.{All-weaker}
use Rattle.std.proofs.lemmas.List.Folds.{list_any_none}
use Rattle.std.specs.List.{list_any}
use Rattle.desk_core.proofs.kept.FloorState.of.Goals as goal

pub returns-else-any-clause-value : goal.returns-else-any-clause-value
returns-else-any-clause-value c =
    let dark : All (λ floor. floor ≡ 0) c.args.floors.now = search rules in
    let none : list_any (nat_lt 0) c.args.floors.now ≡ false =
    list_any_none (nat_lt 0) c.args.floors.now (All-weaker (λ floor. floor ≡ 0)
    (λ floor. nat_lt 0 floor ≡ false) (λ floor zero. rw zero refl) c.args.floors.now dark) in
    rw none refl
