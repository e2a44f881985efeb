use Rattle.patch_core.proofs.Terms.{◌≡◌, ◌≢◌, ℕ, ◌<◌, ◌≤◌, IsTrue, is_dimmer, slot_of, slot_at}
use Rattle.patch_core.proofs.Terms.{dimmer_at, byte_at}
use Rattle.patch_core.proofs.slots.redraw_run.Given as goal

-- each slot is what is wanted, but for those of the dimmers from i on
abbrev pub invariant-loop-i : goal.invariant-loop-i
invariant-loop-i l = (want : ℕ → ℕ)
    → ((dimmer : ℕ) → IsTrue (is_dimmer dimmer)
    → ((p : ℕ) → l.fn.run.start ≤ p → p < l.fn.run.end → dimmer_at l.dimmers p ≢ dimmer)
    → slot_at l.fn.slots dimmer ≡ want dimmer)
    → ((p : ℕ) → l.fn.run.start ≤ p → p < l.fn.run.end
    → slot_of l.level l.grand (byte_at l.dimmers p) ≡ want (dimmer_at l.dimmers p))
    → (dimmer : ℕ) → IsTrue (is_dimmer dimmer)
    → ((p : ℕ) → l.i ≤ p → p < l.fn.run.end → dimmer_at l.dimmers p ≢ dimmer)
    → slot_at l.slots dimmer ≡ want dimmer
