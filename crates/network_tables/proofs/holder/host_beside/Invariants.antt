use Rattle.std.proofs.Common.{◌≡◌, ℕ, ◌<◌, true}
use Rattle.network_tables.specs.Holders.{host_at, is_among}
use Rattle.network_tables.proofs.holder.host_beside.Given as goal

abbrev pub invariant-loop-place : goal.invariant-loop-place
invariant-loop-place l = (k : ℕ) → k < l.place → is_among l.own (host_at l.network k) ≡ true
