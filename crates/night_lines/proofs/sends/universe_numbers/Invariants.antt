use Rattle.std.proofs.Common.{◌≡◌, ◌≤◌, ◌*◌, ◌++◌, length, drop, flat_map}
use Rattle.night_lines.specs.Sends.{number_text}
use Rattle.night_lines.proofs.sends.universe_numbers.Given as goal

-- the numbers so far, and those that are left
abbrev pub invariant-loop-ordinal : goal.invariant-loop-ordinal
invariant-loop-ordinal l = record {
  text : l.text.bytes ++ flat_map (number_text l.base) (drop l.ordinal-index l.ordinals)
      ≡ flat_map (number_text l.base) l.ordinals;
  room : length l.text.bytes ≤ 11 * l.ordinal-index;
}
