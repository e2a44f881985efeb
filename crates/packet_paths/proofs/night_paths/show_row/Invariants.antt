use Rattle.std.proofs.Common.{◌≡◌, ◌++◌, drop, map, take}
use Rattle.packet_paths.specs.Neighbors.{after_row}
use Rattle.packet_paths.proofs.night_paths.show_row.Given as goal

-- the first paths were shown the row
abbrev pub invariant-loop-path : goal.invariant-loop-path
invariant-loop-path l = l.paths
    ≡ map (after_row l.row) (take l.path-index l.initial.paths) ++ drop l.path-index l.initial.paths
