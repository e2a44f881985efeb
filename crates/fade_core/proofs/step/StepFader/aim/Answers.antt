use Rattle.std.proofs.Common.{◌≡◌, List, ℕ, ap, ◌∙◌, arith, length, Vec, Global}
use Rattle.std.specs.Vec.{with_items}
use Rattle.std.proofs.lemmas.List.{with_items_is}
use Rattle.show_core.specs.Numbers.{AreLevels}
use Rattle.fade_core.proofs.Standing.{stands_full, stands_started}
use Rattle.fade_core.proofs.step.StepFader.aim.Goals as goal

-- a vector that was lent as a slice has what was written there
written : (v : Vec ℕ Global) (given new : List ℕ) → given ≡ v.items → length new ≡ length given
    → (with_items v new).items ≡ new
written v given new is size = with_items_is v new (omega (arith, size, ap length is, v.ok.0))

pub invariant_of-self : goal.invariant_of-self
invariant_of-self c =
    let old = c.self.inside in
    let r = c.restart-self-inside in
    let from_is = c.deref_mut.ensures.value in
    let to_is = c.deref_mut-2.ensures.value in
    let levels_are = c.deref_mut-3.ensures.value in
    let moving_is = c.deref_mut-4.ensures.value in
    let from : _ ≡ r.new.from = written old.from _ _ from_is r.auto.from in
    let to : _ ≡ r.new.to = written old.to _ _ to_is r.auto.to in
    let levels : _ ≡ r.new.levels = written old.levels _ _ levels_are r.auto.levels in
    let moving : _ ≡ r.new.moving = written old.moving _ _ moving_is r.auto.moving in
    let from_size = r.auto.from ∙ ap length from_is in
    let to_size = r.auto.to ∙ ap length to_is in
    let levels_size = r.auto.levels ∙ ap length levels_are in
    let moving_size = r.auto.moving ∙ ap length moving_is in
    let given : length c.deref_mut.result.now ≡ length r.new.from = omega (arith, r.auto.from) in
    let fading = c.self.invariant.fading in
    let stands = c.self.invariant.stands in
    let full : AreLevels r.new.from =
    rw (r.ensures.from, levels_are) (stands_full _ _ _ _ fading stands) in
    record {
      fading = record {
        same_length = rw (from, to) (omega (arith, from_size, to_size, fading.same_length));
        few = rw from (omega (arith, from_size, fading.few));
        from_full = rw from full;
        to_full = rw to r.ensures.full;
        in_order = omega arith;
      };
      stands = rw (from, to, levels, moving) (stands_started _ _ _ _ (omega arith)
          (omega (arith, from_size, levels_size, stands.levels_length))
          (omega (arith, from_size, moving_size, stands.moving_length))
          (omega (arith, given, r.ensures.count))
          (rw given at r.ensures.listed)
          r.ensures.levels
          (rw given at r.ensures.others));
    }

pub restart-self-inside-requires-clause-in_range
    : goal.restart-self-inside-requires-clause-in_range
restart-self-inside-requires-clause-in_range c = λ k d lt.
    let here = c.requires.in_range k d lt in (
      here.0,
      omega (
        arith,
        here.1,
        ap (λ f. length f.from) c.self.view_is,
        c.deref_mut-2.ensures.len,
        c.self.inside.to.ok.0,
        c.self.invariant.fading.same_length,
      ),
    )

pub returns-clause-from : goal.returns-clause-from
returns-clause-from c =
    let r = c.restart-self-inside in
    let stands = c.self.invariant.stands in
    let from : _ ≡ r.new.from =
    written c.self.inside.from _ _ c.deref_mut.ensures.value r.auto.from in
    rw (from, r.ensures.from, c.deref_mut-3.ensures.value, ← c.self.view_is)
    (λ i lt. stands.levels_are i (omega (arith, lt, stands.levels_length)))

pub returns-clause-to : goal.returns-clause-to
returns-clause-to c =
    let r = c.restart-self-inside in
    let from_is = c.deref_mut.ensures.value in
    let to_is = c.deref_mut-2.ensures.value in
    let from : _ ≡ r.new.from = written c.self.inside.from _ _ from_is r.auto.from in
    let to : _ ≡ r.new.to = written c.self.inside.to _ _ to_is r.auto.to in
    let from_size = r.auto.from ∙ ap length from_is in
    let to_size = r.auto.to ∙ ap length to_is in
    rw (from, to) (λ i lt.
    r.ensures.to i (omega (arith, lt, from_size, to_size, c.self.invariant.fading.same_length)))

pub returns-clause-channels : goal.returns-clause-channels
returns-clause-channels c =
    let r = c.restart-self-inside in
    let is = c.deref_mut.ensures.value in
    let from : _ ≡ r.new.from = written c.self.inside.from _ _ is r.auto.from in
    rw from (r.auto.from ∙ ap length is ∙ ap (λ f. length f.from) c.self.view_is)
