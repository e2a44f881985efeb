use Rattle.patch_core.proofs.Terms.{refl, ◌≡◌, IsTrue, ◌∙◌, arith, nat_cmp, get_or_default}
use Rattle.patch_core.proofs.Terms.{All-permutation, is_dimmer, PatchMap, entries_are, nat_cmp_total}
use Rattle.std.specs.FinMap as map
use Rattle.patch_core.proofs.Indexed.{begins_rise}
use Rattle.patch_core.proofs.Redrawn.{slots_from_drawn, drawn_from_slots}
use Rattle.patch_core.proofs.rig.Rig.redraw.Goals as goal

pub invariant_of-redraw_channels-clause-numbers : goal.invariant_of-redraw_channels-clause-numbers
invariant_of-redraw_channels-clause-numbers c =
    rw c.deref.ensures.value (All-permutation (λ e. IsTrue (is_dimmer e.0)) _ _
    c.self.invariant.index.same c.self.invariant.numbers_in)

pub invariant_of-redraw_channels-clause-bounds : goal.invariant_of-redraw_channels-clause-bounds
invariant_of-redraw_channels-clause-bounds c =
    rw c.deref-2.ensures.value
    (begins_rise c.self.inside.dimmers.items c.self.inside.by_channel.items
    c.self.inside.begins.items c.self.invariant.index)

pub invariant_of-redraw_channels-clause-in_range :
    goal.invariant_of-redraw_channels-clause-in_range
invariant_of-redraw_channels-clause-in_range c =
    rw (c.deref.ensures.value, c.deref-2.ensures.value)
    (λ at lt. (c.self.invariant.index.places at lt).in_range)

pub returns : goal.returns
returns c = λ before after drawn agree listed.
    let patch : PatchMap = c.args.self.now.patch in
    let same : c.self.inside.dimmers.items ≡ map.entries patch =
    rw (← c.self.view_is, entries_are nat_cmp nat_cmp_total _ c.self.invariant.sorted) refl in
    let index = rw (same, ← c.deref.ensures.value, ← c.deref-2.ensures.value)
    at c.self.invariant.index in
    let in_range = rw same at c.self.invariant.channels_in in
    drawn_from_slots patch after c.args.grand c.redraw_channels.new.slots
    (omega (arith, c.requires.each_slot))
    (c.redraw_channels.ensures patch before after index in_range
    (slots_from_drawn patch before c.args.grand c.args.slots.now c.requires.each_slot drawn)
    (λ channel is unlisted. agree channel is
    (λ there. unlisted there.0 there.1
    (get_or_default c.args.channels.now there.0 0 channel there.1 ∙ there.2))) listed)
