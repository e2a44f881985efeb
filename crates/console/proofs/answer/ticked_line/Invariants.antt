use Rattle.std.proofs.Common.{◌≡◌, ◌≤◌, ◌+◌, ◌*◌, ◌++◌, length, drop}
use Rattle.std.specs.Prelude.{flat_map}
use Rattle.console.specs.Texts.{pair_text}
use Rattle.console.proofs.answer.ticked_line.Given as goal

-- the text so far, and that of the offers that are left
abbrev pub invariant-loop-universe : goal.invariant-loop-universe
invariant-loop-universe l = record {
  text : l.line.bytes ++ flat_map pair_text (drop l.universe-index l.universe-items)
      ≡ l.initial.line.bytes ++ flat_map pair_text l.universe-items;
  room : length l.line.bytes ≤ 31 + 11 * l.universe-index;
}
