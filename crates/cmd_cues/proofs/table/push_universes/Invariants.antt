use Rattle.cmd_cues.proofs.Terms.{◌≡◌, ◌++◌, codes, flat_map, take, universe_table_line}
use Rattle.cmd_cues.proofs.table.push_universes.Given as goal

abbrev pub invariant-loop-ordinal : goal.invariant-loop-ordinal
invariant-loop-ordinal l =
    l.text.items
    ≡ (l.fn.text.items ++ codes "\n universe   dimmers\n")
    ++ flat_map (universe_table_line l.show.patch) (take l.ordinal-index l.ordinals)
