use Rattle.std.proofs.Common.{◌≡◌, ◌++◌, drop, false, map}
use Rattle.night_lines.specs.Targets.{target_line}
use Rattle.night_lines.specs.Lines.{lines_of}
use Rattle.night_lines.proofs.start.push_each_target.Given as goal

-- the lines so far, and those of the targets that are left
abbrev pub invariant-loop-target : goal.invariant-loop-target
invariant-loop-target l = record {
  told : l.lines.is_full ≡ false → l.initial.lines.is_full ≡ false;
  lines : l.lines.is_full ≡ false
      → lines_of l.lines ++ map target_line (drop l.target-index l.targets)
      ≡ lines_of l.initial.lines ++ map target_line l.targets;
}
