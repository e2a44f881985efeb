-- Between a tick's due moment and the tick there is at most one line.
use Rattle.live_input.proofs.Terms.{◌≡◌, ◌⊎◌, inl, inr, ◌≤◌, ℕ, false, List, [], ◌∷◌, ◌++◌, arith}
use Rattle.live_input.proofs.Terms.{refl, Some, None, IsOn, IsTick, NothingIsAsked, TicksAreNext}
use Rattle.live_input.proofs.Terms.{Answer, Happening, answer_to, answers, asked, came, closed}
use Rattle.live_input.proofs.Terms.{next_tick, is_over, now, stage, was_tick, order, dim, close}
use Rattle.live_input.proofs.Terms.{place, help, refusal, wait}
use Rattle.live_input.proofs.Cases.{Next, answer_is_next, nothing, ticks, takes, darkens, leaves}
use Rattle.live_input.proofs.Cases.{places, helps, refuses, dims, closes, waits}
use Rattle.live_input.proofs.Nights.{dark_only, on_only, ticks_first}

-- the answer is no tick, the tick is due as before, and nothing else goes before it
record Stays (h : List Happening) (answer : Answer) : Type 0 where
  none : was_tick (answer ∷ answers h) ≡ false
  same : next_tick (answer ∷ answers h) ≡ next_tick (answers h)
  open_still : IsOn (answer ∷ answers h)

stays : (h : List Happening) (answer : Answer) → was_tick (answer ∷ answers h) ≡ false
    → next_tick (answer ∷ answers h) ≡ next_tick (answers h) → IsOn (answer ∷ answers h)
    → IsTick answer ⊎ Stays h answer
stays h answer none same still =
    inr (record { none = none; same = same; open_still = still })

tick_or_line : (h : List Happening) (n : ℕ) (answer : Answer) → Next h n answer
    → is_over (answers h) ≡ false → IsTick answer ⊎ Stays h answer
tick_or_line h n _ (nothing over) on = cc
tick_or_line h n _ (ticks _ _ _) on = inl tt
tick_or_line h n _ (takes line later _ is _ _ _ _) on =
    stays h (order n line) refl refl (rw (on_only (stage (answers h)) is.0) (refl, refl))
tick_or_line h n _ (darkens line later _ is) on =
    stays h (dim n (Some line)) refl refl (rw (on_only (stage (answers h)) is.0) (refl, refl))
tick_or_line h n _ (leaves line later _ is) on =
    stays h (close n (Some line)) refl refl (rw (on_only (stage (answers h)) is.0) (refl, refl))
tick_or_line h n _ (places line later _ is) on = stays h (place n line) refl refl is
tick_or_line h n _ (helps line later _ is) on = stays h (help line) refl refl is
tick_or_line h n _ (refuses why line later _ is) on = stays h (refusal why line) refl refl is
tick_or_line h n _ (dims is _) on =
    stays h (dim n None) refl refl (rw (on_only (stage (answers h)) is.0) (refl, refl))
tick_or_line h n _ (closes dark) on =
    stays h (close n None) refl refl (rw (dark_only (stage (answers h)) dark).1 (refl, refl))
tick_or_line h n _ (waits _ is) on = stays h (wait (next_tick (answers h))) refl refl is

-- what was answered is as it was, and the clock does not fall
record Lasts (h later : List Happening) : Type 0 where
  same : answers later ≡ answers h
  above : now h ≤ now later

lasts : (h meanwhile : List Happening) → NothingIsAsked meanwhile → Lasts h (meanwhile ++ h)
lasts h [] none = record { same = refl; above = omega arith }
lasts h (came bytes ∷ meanwhile) none =
    let rest = lasts h meanwhile none in record { same = rest.same; above = rest.above }
lasts h (closed ends ∷ meanwhile) none =
    let rest = lasts h meanwhile none in record { same = rest.same; above = rest.above }
lasts h (asked _ ∷ meanwhile) none = elim none [ ]

-- the next answer is a tick, where this one is none
then_tick : (h later : List Happening) (moment next : ℕ) → Lasts (asked moment ∷ h) later
    → next_tick (answers h) ≤ now (asked moment ∷ h)
    → IsTick (answer_to h moment) ⊎ Stays h (answer_to h moment)
    → IsTick (answer_to h moment) ⊎ IsTick (answer_to later next)
then_tick h later moment next lasts late (inl first) = inl first
then_tick h later moment next lasts late (inr stays) =
    let still : was_tick (answers later) ≡ false = rw lasts.same stays.none in
    let due_then : next_tick (answers later) ≤ now (asked next ∷ later)
    = rw (lasts.same, stays.same) (omega (arith, late, lasts.above)) in
    let on : IsOn (answers later) = rw lasts.same stays.open_still in
    inr (rw (ticks_first later next on still due_then) tt)

pub ticks_next : TicksAreNext
ticks_next h meanwhile moment next none on late =
    then_tick h (meanwhile ++ asked moment ∷ h) moment next
    (lasts (asked moment ∷ h) meanwhile none) late
    (tick_or_line h _ _ (answer_is_next h moment) on)
