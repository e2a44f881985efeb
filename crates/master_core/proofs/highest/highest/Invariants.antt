use Rattle.master_core.proofs.Terms.{◌≡◌, ◌*◌, ◌≤◌, get_or, take, map, level_in, greatest}
use Rattle.master_core.proofs.highest.highest.Given as goal

-- the greatest of the records that were looked at; a level is at most 255 times 255
abbrev pub invariant-loop-number : goal.invariant-loop-number
invariant-loop-number l = record {
  so_far : l.most ≡ greatest
      (map (λ e. level_in e.1 l.channel * get_or l.masters e.0 0) (take l.number-index l.records));
  full : l.most ≤ 65025;
}
