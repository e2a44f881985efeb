use Rattle.std.proofs.Common.{◌≡◌, ◌++◌, flat_map, take}
use Rattle.std.specs.Prelude.{codes}
use Rattle.std.specs.List.{filter_map}
use Rattle.remarks.specs.Cards.{choice_text, choices, front_behind}
use Rattle.remarks.specs.Remarks.{excerpt}
use Rattle.remarks.proofs.card.push_choices.Given as goal

abbrev pub invariant-loop-card : goal.invariant-loop-card
invariant-loop-card l = record {
  told :
      l.remark.items
      ≡ take 512 (l.fn.remark.items ++ flat_map excerpt (choices (take l.card-index l.cards)));
  front :
      l.front
      ≡ front_behind (codes "there are ") (filter_map choice_text (take l.card-index l.cards));
}
