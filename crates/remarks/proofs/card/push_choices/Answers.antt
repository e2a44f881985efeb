use Rattle.std.proofs.Common.{◌≡◌, ◌∙◌, ◌++◌, ◌+◌, List, ℕ, ap, arith, flat_map, length}
use Rattle.std.proofs.Common.{length-take}
use Rattle.std.proofs.Common.{refl, take}
use Rattle.std.specs.Prelude.{codes, option_to_list}
use Rattle.std.specs.List.{filter_map}
use Rattle.remarks.specs.Cards.{choice_text, choices, front_behind, listed_behind}
use Rattle.remarks.specs.Remarks.{excerpt}
use Rattle.remarks.proofs.Choices.{more_cards, next_front, told_more}
use Rattle.remarks.proofs.Cuts.{kept, one_more}
use Rattle.remarks.proofs.card.push_choices.Goals as goal

pub loop-card-init : goal.loop-card-init
loop-card-init c = record {
  told = kept 512 c.args.remark.now.items c.requires;
  front = refl;
}

pub push_choice-front-requires : goal.push_choice-front-requires
push_choice-front-requires c =
    let told : List ℕ = c.args.remark.now.items
    ++ flat_map excerpt (choices (take c.loop-card.card-index c.args.cards.now)) in
    omega (arith, length-take 512 told, ap length c.loop-card.invariant.told)

pub loop-card-preserved : goal.loop-card-preserved
loop-card-preserved c =
    let cards = c.args.cards.now in
    let i = c.loop-card.card-index in
    let card = c.card-item.result in
    let first : List ℕ = codes "there are " in
    let seen : List (List ℕ) = filter_map choice_text (take i cards) in
    let next : List (List ℕ) = option_to_list (choice_text card) in
    let before : List ℕ = flat_map excerpt (listed_behind first seen) in
    let more : seen ++ next ≡ filter_map choice_text (take (i + 1) cards) =
    ap (λ x. seen ++ option_to_list (choice_text x)) c.card-item.is
    ∙ more_cards cards i card c.loop-card-test.true in
    let grown : before ++ flat_map excerpt (listed_behind c.loop-card.front.now next)
    ≡ flat_map excerpt (choices (take (i + 1) cards)) =
    ap (λ f. before ++ flat_map excerpt (listed_behind f next)) c.loop-card.invariant.front
    ∙ told_more seen next ∙ ap (λ ts. flat_map excerpt (listed_behind first ts)) more in
    record {
      told =
          one_more 512 c.args.remark.now.items before _ _ _ _ c.loop-card.invariant.told
          c.push_choice-front.ensures.text grown;
      front =
          c.push_choice-front.ensures.front
          ∙ ap (λ f. front_behind f next) c.loop-card.invariant.front
          ∙ next_front first seen next ∙ ap (front_behind first) more;
    }
