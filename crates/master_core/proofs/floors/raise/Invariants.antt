use Rattle.master_core.proofs.Terms.{◌≡◌, ℕ, ◌+◌, ◌*◌, ◌<◌, get_or, take, length, map, max, AreLevels}
use Rattle.master_core.proofs.Terms.{level_in, greatest}
use Rattle.master_core.proofs.floors.raise.Given as goal

-- the records so far raised each level
abbrev pub invariant-loop-number : goal.invariant-loop-number
invariant-loop-number l = record {
  raised : (place : ℕ) → place < length l.floors → get_or l.floors place 0
      ≡ max (get_or l.fn.floors place 0) (greatest (map
      (λ e. level_in e.1 (place + 1) * get_or l.masters e.0 0) (take l.number-index l.records)));
  full : AreLevels l.floors;
}
