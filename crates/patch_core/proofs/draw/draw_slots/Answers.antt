use Rattle.patch_core.proofs.Terms.{◌≡◌, ℕ, zero, suc, ◌<◌, List, [], ◌∷◌, length, get_or, arith, refl}
use Rattle.patch_core.proofs.Terms.{Dark, Mixed}
use Rattle.patch_core.proofs.draw.draw_slots.Goals as goal
use Rattle.patch_core.proofs.draw.draw_slots.Goals.{then-drawing, else-drawing}

-- an element that is there is the same whatever else would be
other_default : {X : Type 0} (xs : List X) (i : ℕ) (d e : X) → i < length xs
    → get_or xs i d ≡ get_or xs i e
other_default [] i d e within = absurd (omega (arith, within))
other_default (x ∷ xs) zero d e within = refl
other_default (x ∷ xs) (suc i) d e within = other_default xs i d e (omega (arith, within))

pub draw_frame-requires-clause-slots : goal.draw_frame-requires-clause-slots
draw_frame-requires-clause-slots c =
    elim c.if-drawing.branch [
      | then-drawing w ↦ rw (w.if-drawing.true, w.slots-is) w.fill_full.ensures
      | else-drawing w ↦ rw w.slots-is w.fill_dimmed.ensures
    ]

pub draw_frame-requires-clause-kind : goal.draw_frame-requires-clause-kind
draw_frame-requires-clause-kind c =
    let k : ℕ = c.loop-ordinal.ordinal in
    let kinds = c.args.drawing.now.kinds.now in
    rw (other_default kinds k Dark Mixed (omega (arith, c.args.drawing.now.each_kind)))
    (c.requires.kinds k (omega arith))
