use Rattle.patch_core.proofs.Terms.{◌≡◌, ℕ, ◌*◌, ◌<◌, get_or, slot_of}
use Rattle.patch_core.proofs.draw.draw_slots.Given as goal

-- the slots of the ordinals so far are drawn
abbrev pub invariant-loop-ordinal : goal.invariant-loop-ordinal
invariant-loop-ordinal l = (p : ℕ) → p < 512 * l.ordinal → get_or l.out p 0
    ≡ slot_of (get_or l.drawing.levels.now (get_or l.drawing.sources.now p 0) 0) l.drawing.grand
    (get_or l.drawing.bytes.now p 0)
