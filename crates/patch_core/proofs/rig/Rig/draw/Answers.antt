use Rattle.patch_core.proofs.Terms.{◌≡◌, ℕ, ◌+◌, ◌-◌, ◌<◌, subst, ap, ◌∙◌, arith, listed_level}
use Rattle.patch_core.proofs.Terms.{dimmer_slot, AreSources}
use Rattle.patch_core.proofs.Redrawn.{dimmer_range, drawn_from_slots}
use Rattle.patch_core.proofs.Sourced.{slot_from_sources}
use Rattle.patch_core.proofs.rig.Rig.draw.Goals as goal

pub returns : goal.returns
returns c =
    let patch = c.args.self.now.patch in
    let levels = c.args.levels.now in
    let are : AreSources patch c.deref.result.now c.deref-2.result.now =
    rw (c.deref.ensures.value, c.deref-2.ensures.value)
    (subst (λ r. AreSources r.patch c.self.inside.sources.items c.self.inside.bytes.items)
    c.self.view_is c.self.invariant.sources) in
    drawn_from_slots patch (listed_level levels) c.args.grand c.draw_slots.new.out
    (omega (arith, c.requires.each_slot)) (λ dimmer is.
    let range = dimmer_range dimmer is in
    let p : ℕ = dimmer - 1 in
    let within : p < 8192 = omega (arith, range.0, range.1) in
    let next : p + 1 ≡ dimmer = omega (arith, range.0) in
    c.draw_slots.ensures p within
    ∙ slot_from_sources patch c.deref.result.now c.deref-2.result.now levels are c.args.grand p
    within
    ∙ ap (dimmer_slot patch (listed_level levels) c.args.grand) next)
