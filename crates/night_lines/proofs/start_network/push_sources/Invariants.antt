use Rattle.std.proofs.Common.{◌≡◌, ◌++◌, drop, false, map}
use Rattle.night_lines.specs.StartNetworks.{origin_told}
use Rattle.night_lines.specs.Lines.{lines_of}
use Rattle.night_lines.proofs.start_network.push_sources.Given as goal

-- the lines so far, and those of the sources that are left
abbrev pub invariant-loop-source : goal.invariant-loop-source
invariant-loop-source l = record {
  told : l.lines.is_full ≡ false → l.initial.lines.is_full ≡ false;
  lines : l.lines.is_full ≡ false
      → lines_of l.lines ++ map (origin_told l.is_named) (drop l.source-index l.sources)
      ≡ lines_of l.initial.lines ++ map (origin_told l.is_named) l.sources;
}
