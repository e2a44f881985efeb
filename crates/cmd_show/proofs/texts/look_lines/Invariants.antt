use Rattle.std.proofs.Common.{take}
use Rattle.cmd_show.specs.Texts.{IsLinesOf}
use Rattle.cmd_show.proofs.texts.look_lines.Given as goal

-- the lines so far are those of the universes so far
abbrev pub invariant-loop-ordinal : goal.invariant-loop-ordinal
invariant-loop-ordinal l =
    IsLinesOf l.look.levels l.show.patch l.cid (take l.ordinal-index l.ordinals) l.text.items
