use Rattle.show_core.proofs.Terms.{◌≡◌, ℕ, ◌+◌, ◌*◌, ◌<◌, length, get_or, look_slot}
use Rattle.show_core.proofs.show.Show.cue_slots.Given as goal

abbrev pub invariant-loop-place : goal.invariant-loop-place
invariant-loop-place l = record {
  size : length l.slots ≡ 512;
  so_far : (i : ℕ) → i < l.place
      → get_or l.slots i 0 ≡ look_slot l.cue.levels l.self.patch (512 * l.ordinal + 1 + i);
}
