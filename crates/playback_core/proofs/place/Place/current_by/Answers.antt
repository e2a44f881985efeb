use Rattle.playback_core.proofs.Terms.{◌≡◌, refl, sym, ◌∙◌, false, Option, None, Some, is_some, IfNone}
use Rattle.playback_core.proofs.place.Place.current_by.Goals as goal

on_none : {A P : Type 0} (o : Option A) → is_some o ≡ false → IfNone o P → P
on_none None is h = h
on_none (Some x) is h = cc

pub returns : goal.returns
returns c = λ moves stopped is.
    let some = c.loop.invariant moves stopped is in
    let all = on_none c.follow.result (sym c.is_some.ensures ∙ c.loop-test.false)
    c.follow.ensures.stays some.0 stopped some.1 in
    rw (all.0.current, ← some.2, all.1) refl
