use Rattle.master_core.proofs.Terms.{ℕ, ◌*◌, get_or, arith, level_in, LevelMap}
use Rattle.master_core.proofs.Greatest.{greatest_next}
use Rattle.master_core.proofs.highest.highest.Goals as goal

pub loop-number-preserved : goal.loop-number-preserved
loop-number-preserved c =
    let level : ℕ × LevelMap → ℕ = λ (e : ℕ × LevelMap).
    level_in e.1 c.args.channel * get_or c.args.masters.now e.0 0 in
    let next = greatest_next level c.args.records.now c.loop-number.number-index
    c.loop-number-item.result c.loop-number-test.true c.loop-number-item.is in
    record {
      so_far = grind (arith, next);
      full = grind arith;
    }
