use Rattle.std.proofs.Common.{◌≡◌, ◌++◌, drop, false, filter_map}
use Rattle.night_lines.specs.StartNetworks.{no_route_told}
use Rattle.night_lines.specs.Lines.{lines_of}
use Rattle.night_lines.proofs.start_network.push_missing_routes.Given as goal

-- the lines so far, and those of the paths that are left
abbrev pub invariant-loop-path : goal.invariant-loop-path
invariant-loop-path l = record {
  told : l.lines.is_full ≡ false → l.initial.lines.is_full ≡ false;
  lines : l.lines.is_full ≡ false
      → lines_of l.lines ++ filter_map no_route_told (drop l.path-index l.paths)
      ≡ lines_of l.initial.lines ++ filter_map no_route_told l.paths;
}
