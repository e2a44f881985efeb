-- What stands behind the lines that a queue hands on.
use Rattle.std.proofs.Common.{◌≡◌, ◌≤◌, ◌+◌, ℕ, inl, inr, Option, Some, arith, refl, subst}
use Rattle.std.proofs.Common.{sym}
use Rattle.line_queue.specs.Handing.{AsksAtMost, IsDone, IsHandedOn}
use Rattle.line_queue.specs.LineOutputs.{Changes}
use Rattle.line_queue.specs.Pipes.{PipeTape}
use Rattle.line_queue.specs.declared.queue.LineQueue.{LineQueue}

-- a pipe was asked twice, and given no time
pub asked_twice : (old one new : PipeTape) (first second : ℕ) → AsksAtMost first 0 old one
    → AsksAtMost second 0 one new → AsksAtMost (first + second) 0 old new
asked_twice old one new first second was is = record {
  no_fewer = omega (arith, was.no_fewer, is.no_fewer);
  few = omega (arith, was.few, is.few);
  short = omega (arith, was.short, is.short);
}

-- what waits behind a line was handed on
pub handed_behind : {P : Type 0} (queue : LineQueue P) (old one new : PipeTape) (parts : ℕ)
    → old.writes ≤ one.writes → IsDone parts queue one new → IsHandedOn parts queue old new
handed_behind queue old one new parts more (inl empty) = inl empty
handed_behind queue old one new parts more (inr (inl full)) = inr (inl full)
handed_behind queue old one new parts more (inr (inr often)) =
    inr (inr (omega (arith, more, often)))

-- the queue of an open output changes so
pub open_changes : {P : Type 0} (Does : LineQueue P → LineQueue P → Type 0)
    (output : Option (LineQueue P)) (old new : LineQueue P) → output ≡ Some old → Does old new
    → Changes Does output (Some new)
open_changes Does output old new is does =
    subst (λ before. Changes Does before (Some new)) (sym is) (new, refl, does)
