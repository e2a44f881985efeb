use Rattle.std.proofs.Common.{◌≡◌, take, flat_map}
use Rattle.cmd_show.specs.Slots.{ordinal_lines}
use Rattle.cmd_show.proofs.levels.universes_text.Given as goal

-- the lines so far are those of the universes so far
abbrev pub invariant-loop-ordinal : goal.invariant-loop-ordinal
invariant-loop-ordinal l = l.text.items ≡ flat_map (ordinal_lines l.look.levels l.show.patch l.base)
    (take l.ordinal-index l.ordinals)
