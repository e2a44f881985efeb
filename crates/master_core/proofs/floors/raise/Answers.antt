use Rattle.master_core.proofs.Terms.{◌≡◌, ℕ, ◌+◌, ◌*◌, IsTrue, get_or, sym, subst, ap, arith, All}
use Rattle.master_core.proofs.Terms.{unwrap_or, nat_cmp, common_steps, is_channel, level_in, LevelMap}
use Rattle.master_core.proofs.Terms.{entries_from_keys, to_true}
use Rattle.std.specs.FinMap as maps
use Rattle.master_core.proofs.Greatest.{greatest_next}
use Rattle.master_core.proofs.floors.raise.Goals as goal

pub raise_listed-requires-clause-ascending : goal.raise_listed-requires-clause-ascending
raise_listed-requires-clause-ascending c =
    subst (λ es. IsTrue (maps.is_sorted nat_cmp es)) (sym c.pairs.ensures.entries)
    (to_true (maps.entries_sorted c.loop-number-item.result.1))

pub raise_listed-requires-clause-in_range : goal.raise_listed-requires-clause-in_range
raise_listed-requires-clause-in_range c =
    subst (All (λ pair. IsTrue (is_channel pair.0))) (sym c.pairs.ensures.entries)
    (entries_from_keys (λ n. IsTrue (is_channel n)) (maps.entries c.loop-number-item.result.1)
    c.pairs.ensures.range)

pub loop-number-preserved : goal.loop-number-preserved
loop-number-preserved c =
    let item = c.loop-number-item.result in
    let level : ℕ → ℕ × LevelMap → ℕ = λ (place : ℕ) (e : ℕ × LevelMap).
    level_in e.1 (place + 1) * get_or c.args.masters.now e.0 0 in
    record {
      raised = λ place lt.
          let byte : unwrap_or (maps.find nat_cmp (place + 1) (maps.entries item.1)) 0
          ≡ level_in item.1 (place + 1) =
          ap (λ o. unwrap_or o 0) (sym (maps.get-entries item.1 (place + 1))) in
          let next = greatest_next (level place) c.args.records.now c.loop-number.number-index
          item c.loop-number-test.true c.loop-number-item.is in
          let before = c.loop-number.invariant.raised place (omega arith) in
          grind (arith, byte, next, before);
      full = grind (arith, common_steps, c.loop-number.invariant.full);
    }

pub returns-clause-full : goal.returns-clause-full
returns-clause-full c = c.loop-number.invariant.full
