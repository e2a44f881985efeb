use Rattle.std.proofs.Common.{◌∙◌, ◌++◌, ◌∷◌, ℕ, List, [], ap, length, map, sym, take}
use Rattle.std.proofs.lemmas.Iterator.{YieldsList-from_chars}
use Rattle.std.proofs.lemmas.Iterator.Consumers.{YieldsList-turn, YieldsList-end}
use Rattle.std.proofs.lemmas.List.{length_push, length-take, map_more, take_all, take-map}
use Rattle.std.proofs.Common.{arith}
use Rattle.std.specs.Str.{chars}
use Rattle.remarks.specs.Remarks.{shown_character}
use Rattle.remarks.proofs.Cuts.{one_more}
use Rattle.remarks.proofs.name.of_name.Goals as goal

pub loop-character-preserved : goal.loop-character-preserved
loop-character-preserved c =
    let all = chars c.args.name.now in
    let seen = c.loop-character.yielded in
    let x = c.in-Some.character in
    let t = YieldsList-turn (YieldsList-from_chars c.args.name.now c.utf8.name cc) seen _
    c.loop-character.yielded_by _ _ x c.in-Some.is c.next.ensures.steps in
    let before : List ℕ = map shown_character (take (length seen) all) in
    let step = c.push_character.ensures
    ∙ ap (λ s. take 200 (c.loop-character.shown.bytes ++ s ∷ []))
    (c.shown_character.ensures.value ∙ ap shown_character t.1) in
    one_more 200 [] before _ _ _ _ c.loop-character.invariant step
    (sym (map_more shown_character all (length seen) x t.0)
    ∙ ap (λ n. map shown_character (take n all)) (sym (length_push seen x)))

pub returns-clause-text : goal.returns-clause-text
returns-clause-text c =
    let all = chars c.args.name.now in
    let t = YieldsList-end (YieldsList-from_chars c.args.name.now c.utf8.name cc)
    c.loop-character.yielded _ c.loop-character.yielded_by _ _ c.in-None.is c.next.ensures.steps in
    c.loop-character.invariant
    ∙ ap (λ n. take 200 (map shown_character (take n all))) t.1
    ∙ ap (λ l. take 200 (map shown_character l)) (take_all (length all) all (omega arith))
    ∙ take-map shown_character 200 all

pub returns-clause-room : goal.returns-clause-room
returns-clause-room c =
    let all : List ℕ =
    map shown_character (take (length c.loop-character.yielded) (chars c.args.name.now)) in
    omega (arith, length-take 200 all, ap length c.loop-character.invariant)
