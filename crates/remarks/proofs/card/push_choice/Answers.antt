use Rattle.std.proofs.Common.{◌≡◌, ◌∙◌, ◌++◌, ◌∷◌, [], List, ℕ, ap, append-nil, flat_map, sym, take}
use Rattle.std.specs.Prelude.{option_to_list}
use Rattle.remarks.specs.Cards.{listed_behind}
use Rattle.remarks.specs.Remarks.{excerpt}
use Rattle.remarks.proofs.Cuts.{kept, one_more}
use Rattle.remarks.proofs.card.push_choice.Goals as goal

pub returns-in-Some-clause-text : goal.returns-in-Some-clause-text
returns-in-Some-clause-text c =
    let old : List ℕ = c.args.remark.now.items in
    let text : List ℕ = c.as_bytes-in-Some.result.now in
    let told = λ (f t : List ℕ). take 512 (old ++ flat_map excerpt (f ∷ t ∷ [])) in
    let grown : excerpt c.as_bytes.result.now ++ excerpt text
    ≡ flat_map excerpt (c.as_bytes.result.now ∷ text ∷ []) =
    ap (λ l. excerpt c.as_bytes.result.now ++ l) (sym (append-nil (excerpt text))) in
    one_more 512 old _ _ _ _ _ c.push_shown.ensures c.push_shown-in-Some.ensures grown
    ∙ ap (λ f. told f text) c.as_bytes.ensures.value
    ∙ ap (told c.args.front.now) (c.as_bytes-in-Some.ensures.value ∙ c.as_str.ensures.value)
    ∙ ap (λ o. take 512 (old ++ flat_map excerpt
    (listed_behind c.args.front.now (option_to_list o)))) c.in-Some.ensures

pub returns-in-None-clause-text : goal.returns-in-None-clause-text
returns-in-None-clause-text c =
    let old : List ℕ = c.args.remark.now.items in
    kept 512 old c.requires
    ∙ ap (λ o. take 512 (old ++ flat_map excerpt
    (listed_behind c.args.front.now (option_to_list o)))) c.in-None.ensures
