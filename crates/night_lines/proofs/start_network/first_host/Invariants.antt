use Rattle.std.proofs.Common.{◌≡◌, drop}
use Rattle.std.specs.List.{find}
use Rattle.night_lines.specs.StartNetworks.{leaves_from}
use Rattle.night_lines.proofs.start_network.first_host.Given as goal

-- the first is among those that are left
abbrev pub invariant-loop-path : goal.invariant-loop-path
invariant-loop-path l =
    find (leaves_from l.place) (drop l.path-index l.paths) ≡ find (leaves_from l.place) l.paths
