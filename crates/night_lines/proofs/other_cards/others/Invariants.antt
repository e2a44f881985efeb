use Rattle.std.proofs.Common.{◌≡◌, ◌≤◌, ◌++◌, length, drop, filter_map}
use Rattle.night_lines.specs.OtherCards.{other_card}
use Rattle.night_lines.proofs.other_cards.others.Given as goal

-- the cards so far, and those that are left
abbrev pub invariant-loop-card : goal.invariant-loop-card
invariant-loop-card l = record {
  cards : l.others.items ++ filter_map (other_card l.sources) (drop l.card-index l.card-items)
      ≡ filter_map (other_card l.sources) l.card-items;
  room : length l.others.items ≤ l.card-index;
}
