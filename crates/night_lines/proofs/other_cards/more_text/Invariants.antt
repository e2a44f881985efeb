use Rattle.std.proofs.Common.{◌≡◌, ◌≤◌, ◌*◌, ◌++◌, length, drop, flat_map}
use Rattle.night_lines.specs.OtherCards.{more_text}
use Rattle.night_lines.proofs.other_cards.more_text.Given as goal

-- the cards so far, and those that are left
abbrev pub invariant-loop-other : goal.invariant-loop-other
invariant-loop-other l = record {
  text : l.text.bytes ++ flat_map more_text (drop l.other-index l.rest)
      ≡ flat_map more_text l.rest;
  room : length l.text.bytes ≤ 35 * l.other-index;
}
