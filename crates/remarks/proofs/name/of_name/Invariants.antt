use Rattle.std.proofs.Common.{◌≡◌, length, map, take}
use Rattle.std.specs.Str.{chars}
use Rattle.remarks.specs.Remarks.{shown_character}
use Rattle.remarks.proofs.name.of_name.Given as goal

abbrev pub invariant-loop-character : goal.invariant-loop-character
invariant-loop-character l =
    l.shown.bytes ≡ take 200 (map shown_character (take (length l.yielded) (chars l.name)))
