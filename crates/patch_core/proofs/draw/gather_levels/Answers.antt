use Rattle.patch_core.proofs.Terms.{ℕ, ◌+◌, ◌≤◌, get_or, arith, All-get_or}
use Rattle.patch_core.proofs.draw.gather_levels.Goals as goal

pub returns-clause-full : goal.returns-clause-full
returns-clause-full c = λ s lt.
    let source : ℕ = get_or c.args.sources.now (c.args.first + s) 0 in
    rw (c.loop-slot.invariant s (omega arith))
    (All-get_or (λ level. level ≤ 65025) c.args.levels.now source 0
    (omega (arith, c.requires.in_range (c.args.first + s), c.requires.each_channel))
    c.requires.full)
