use Rattle.std.proofs.Common.{◌≡◌, drop}
use Rattle.targets.specs.Misfit.{first_repeat}
use Rattle.targets.proofs.targets.first_repeat.Given as goal

abbrev pub invariant-loop-place : goal.invariant-loop-place
invariant-loop-place l = first_repeat l.addresses ≡ first_repeat (drop l.place l.addresses)
