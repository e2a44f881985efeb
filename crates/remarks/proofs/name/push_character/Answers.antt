use Rattle.std.proofs.Common.{◌≡◌, ◌∙◌, ◌++◌, ◌∷◌, ◌<◌, ℕ, List, [], arith, length, sym}
use Rattle.std.proofs.Common.{length-append}
use Rattle.std.proofs.lemmas.Bool.Decides.{nat_tests}
use Rattle.std.proofs.lemmas.List.{take_all, take_at}
use Rattle.remarks.proofs.name.push_character.Goals as goal

pub returns-then-not-is_full : goal.returns-then-not-is_full
returns-then-not-is_full c =
    let old : List ℕ = c.args.shown.now.bytes in
    let added : List ℕ = c.args.character ∷ [] in
    let short : length old < 200 = grind (arith, nat_tests) in
    c.push.ensures.ascii c.requires
    ∙ sym (take_all 200 (old ++ added) (omega (arith, short, length-append old added)))

pub returns-else-not-is_full : goal.returns-else-not-is_full
returns-else-not-is_full c =
    let old : List ℕ = c.args.shown.now.bytes in
    let full : length old ≡ 200 = grind (arith, nat_tests) in
    sym (take_at old (c.args.character ∷ []) 200 full)
