use Rattle.show_core.proofs.Terms.{◌≡◌, ◌≤◌, filter, range_with_len, array_vec_len, has_dimmer_in}
use Rattle.show_core.proofs.show.Show.universes.Given as goal

abbrev pub invariant-loop-ordinal : goal.invariant-loop-ordinal
invariant-loop-ordinal l = record {
  so_far : l.found.items ≡ filter (has_dimmer_in l.self.patch) (range_with_len 0 l.ordinal);
  few : array_vec_len l.found ≤ l.ordinal;
}
