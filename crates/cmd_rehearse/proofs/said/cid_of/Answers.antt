use Rattle.std.proofs.Common.{◌≡◌, Option, Some, None, ◌∙◌, sym, ap, refl}
use Rattle.std.specs.Result.{is_ok}
use Rattle.std.proofs.lemmas.Bool.{true≢false}
use Rattle.uuid.specs.Text.{parsed}
use Rattle.cmd_rehearse.proofs.said.cid_of.Goals as goal

-- what is never found is `None`
none_unless_found : {X : Type 0} (o : Option X) → (((x : X) × (o ≡ Some x)) → ⊥) → None ≡ o
none_unless_found None never = refl
none_unless_found (Some x) never = absurd (never (x, refl))

pub returns-in-Err : goal.returns-in-Err
returns-in-Err c = none_unless_found (parsed c.args.word.now)
    (λ found. absurd (true≢false
    (sym (c.try_parse_ascii.ensures.ok.1 found) ∙ ap is_ok c.in-Err.is)))
