use Rattle.std.proofs.Common.{◌≡◌, [], take, map}
use Rattle.packet_paths.specs.Hosts.{host_path}
use Rattle.packet_paths.proofs.night_paths.NightPaths.latest_look.Given as goal

-- how the first addresses are
abbrev pub invariant-loop-source : goal.invariant-loop-source
invariant-loop-source l = record {
  sources : l.found.sources.items
      ≡ map (λ source. source.state) (take l.source-index l.self.sources.items);
  paths : l.found.paths.items ≡ [];
}

-- what is known of the first paths
abbrev pub invariant-loop-path : goal.invariant-loop-path
invariant-loop-path l = record {
  sources : l.found.sources.items ≡ map (λ source. source.state) l.self.sources.items;
  paths : l.found.paths.items ≡ map host_path (take l.path-index l.self.paths.items);
}
