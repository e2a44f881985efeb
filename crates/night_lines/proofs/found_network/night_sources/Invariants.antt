use Rattle.std.proofs.Common.{◌≡◌, map, take}
use Rattle.std.specs.Prelude.{None}
use Rattle.night_lines.specs.FoundNetworks.{with_route}
use Rattle.night_lines.proofs.found_network.night_sources.Given as goal

-- the sources so far
abbrev pub invariant-loop-source : goal.invariant-loop-source
invariant-loop-source l = l.night.items
    ≡ map (λ source. with_route source None) (take l.source-index l.first)
