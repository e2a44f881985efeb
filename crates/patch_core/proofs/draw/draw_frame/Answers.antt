use Rattle.patch_core.proofs.Terms.{refl, ap, ◌∙◌, ℕ, ◌≡◌, ◌+◌, ◌*◌, get_or, arith, get_or-replicate}
use Rattle.patch_core.proofs.Sourced.{slot_dark}
use Rattle.patch_core.proofs.draw.draw_frame.Goals as goal

pub returns-in-Dark : goal.returns-in-Dark
returns-in-Dark c = λ s lt.
    let drawing = c.args.drawing.now in
    let source : ℕ = get_or drawing.sources.now (512 * c.args.ordinal + s) 0 in
    let level : ℕ = get_or drawing.levels.now source 0 in
    let dark = rw c.in-Dark.is at c.requires.kind in
    let filled : get_or c.fill.new.self s 0 ≡ 0 =
    ap (λ f. get_or f s 0) (c.fill.ensures.after (λ y is. is))
    ∙ get_or-replicate {A = ℕ} _ s 0 0 (omega (arith, lt, c.requires.size)) in
    rw (filled, dark s lt, slot_dark level drawing.grand) refl
