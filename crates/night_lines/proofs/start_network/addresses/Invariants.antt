use Rattle.std.proofs.Common.{◌≡◌, map, take}
use Rattle.night_lines.proofs.start_network.addresses.Given as goal

-- the addresses so far
abbrev pub invariant-loop-source : goal.invariant-loop-source
invariant-loop-source l = l.addresses.items
    ≡ map (λ source. source.address) (take l.source-index l.sources.items)
