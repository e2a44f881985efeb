-- What a desk accepts of a night.
use Rattle.live_input.proofs.Terms.{◌≡◌, ◌≤◌, ◌<◌, ◌^◌, ℕ, ◌+◌, true, false, refl, ap, ◌∙◌, arith}
use Rattle.live_input.proofs.Terms.{List, ◌∷◌, Option, Some, None, is_none, option_map_or}
use Rattle.live_input.proofs.Terms.{cond_both, nat_tests, Tables, Setting, Instruction, Plain, End}
use Rattle.live_input.proofs.Terms.{Master}
use Rattle.live_input.proofs.Terms.{Act, last_act_moment, last_tick, Stage, On, Dark, Ended, IsDim}
use Rattle.live_input.proofs.Terms.{accepted_acts, since_end, acts_with, Answer, Happening}
use Rattle.live_input.proofs.Terms.{answer_to, answers, asked, next_tick, close, dim, is_on}
use Rattle.live_input.proofs.Terms.{is_through, now, order, stage, stage_by, tick}
use Rattle.desk_core.specs.Played as desk
use Rattle.desk_core.specs.Played.{refusal}
use Rattle.live_input.proofs.Asked.{is_end}
use Rattle.live_input.proofs.Cases.{Keeps, Next, answer_is_next, clock_below, through}
use Rattle.live_input.proofs.Cases.{closes, darkens, dims, leaves, takes, ticks}
use Rattle.live_input.proofs.Nights.{dark_only, on_only}

-- a desk with this history, at this moment, agrees with the answers given: its last tick, if there
-- was one, is 23 ms before the next is due, and its grand master is down where the night is dark
record Agrees (history : List Act) (given : List Answer) (n : ℕ) : Type 0 where
  moment : last_act_moment history ≤ n
  since : desk.ticks_since_end history ≡ since_end (stage given)
  past : option_map_or (λ last. last + 23) (last_tick history) 0 ≤ next_tick given
  dark : IsDim (stage given) (desk.settings history)

abbrev act : ℕ → desk.Call → Act
act n call = record { moment = n; call = call }

-- ---- what is accepted

abbrev IsTimely : List Act → ℕ → ℕ → Type 0
IsTimely history d n =
    (last_act_moment history ≤ n) × (option_map_or (λ last. last + 23) (last_tick history) 0 ≤ d)

tick_accepted : (show : Tables) (history : List Act) (d n : ℕ) (s : Stage) → n < 2 ^ 48
    → IsTimely history d n → desk.ticks_since_end history ≡ since_end s → is_through s
    ≡ false → d ≤ n
    → refusal show history (act n desk.tick) ≡ None
tick_accepted show history d n On below t since on late =
    grind (arith, nat_tests, t.0, t.1, since)
tick_accepted show history d n (Dark count) below t since on late =
    grind (arith, nat_tests, t.0, t.1, since)
tick_accepted show history d n (Ended count) below t since on late =
    grind (arith, nat_tests, t.0, t.1, since, on)

end_accepted : (show : Tables) (history : List Act) (n : ℕ) → n < 2 ^ 48
    → last_act_moment history ≤ n → desk.ticks_since_end history ≡ None
    → refusal show history (act n (desk.order (Plain End))) ≡ None
end_accepted show history n below moment none = grind (arith, nat_tests, moment, none)

dim_accepted : (show : Tables) (history : List Act) (n : ℕ) → n < 2 ^ 48
    → last_act_moment history ≤ n → desk.ticks_since_end history ≡ None
    → refusal show history (act n (desk.order (Plain (Master 0)))) ≡ None
dim_accepted show history n below moment none = grind (arith, nat_tests, moment, none)

-- ---- one answer more

order_quiet : (c : Instruction) (since : Option ℕ) → is_end c ≡ false
    → desk.ended_by (desk.order c) since ≡ since
order_quiet (Plain End) since other = cc
order_quiet c since other = grind arith

tick_ends : (s : Stage) (n : ℕ)
    → desk.ended_by desk.tick (since_end s) ≡ since_end (stage_by (tick n) s)
tick_ends On n = refl
tick_ends (Dark count) n = refl
tick_ends (Ended count) n = refl

tick_dims : (s : Stage) (n : ℕ) (settings : List Setting) → IsDim s settings
    → IsDim (stage_by (tick n) s) settings
tick_dims On n settings dark = tt
tick_dims (Dark count) n settings dark = dark
tick_dims (Ended count) n settings dark = tt

on_none : (s : Stage) → is_on s ≡ true → since_end s ≡ None
on_none s on = rw (on_only s on) refl

order_by : (show : Tables) (h : List Happening) (n : ℕ) (line : List ℕ) (c : Instruction)
    → is_on (stage (answers h)) ≡ true → is_end c ≡ false → now h ≤ n
    → Agrees (accepted_acts show (answers h)) (answers h) (now h)
    → Agrees (acts_with show (Some (act n (desk.order c))) (accepted_acts show (answers h)))
    (order n line ∷ answers h) n
order_by show h n line c on other le a =
    let s = on_only (stage (answers h)) on in
    cond_both (is_none (refusal show (accepted_acts show (answers h)) (act n (desk.order c)))) _ _
    (λ history. Agrees history (order n line ∷ answers h) n)
    (λ e. record {
      moment = omega arith;
      since = ap (desk.ended_by (desk.order c)) a.since ∙ order_quiet c _ other;
      past = a.past;
      dark = rw s tt;
    })
    (λ e. record {
      moment = omega (arith, a.moment);
      since = a.since;
      past = a.past;
      dark = rw s tt;
    })

dim_by : (show : Tables) (h : List Happening) (n : ℕ) (typed : Option (List ℕ)) → n < 2 ^ 48
    → is_on (stage (answers h)) ≡ true → now h ≤ n
    → Agrees (accepted_acts show (answers h)) (answers h) (now h)
    → Agrees (accepted_acts show (dim n typed ∷ answers h)) (dim n typed ∷ answers h) n
dim_by show h n typed below on le a =
    let none = a.since ∙ on_none (stage (answers h)) on in
    let s = on_only (stage (answers h)) on in
    rw (dim_accepted show (accepted_acts show (answers h)) n below (omega (arith, a.moment)) none)
    (record {
      moment = omega arith;
      since = rw s none;
      past = a.past;
      dark = rw s refl;
    })

close_by : (show : Tables) (h : List Happening) (n : ℕ) (typed : Option (List ℕ)) → n < 2 ^ 48
    → since_end (stage (answers h)) ≡ None
    → stage_by (close n typed) (stage (answers h)) ≡ Ended 0 → now h ≤ n
    → Agrees (accepted_acts show (answers h)) (answers h) (now h)
    → Agrees (accepted_acts show (close n typed ∷ answers h)) (close n typed ∷ answers h) n
close_by show h n typed below none s le a =
    let before = a.since ∙ none in
    rw (end_accepted show (accepted_acts show (answers h)) n below (omega (arith, a.moment)) before)
    (record {
      moment = omega arith;
      since = rw (s, before) refl;
      past = a.past;
      dark = rw s tt;
    })

agrees_by : (show : Tables) → Keeps (λ given n. Agrees (accepted_acts show given) given n)
agrees_by show h n _ (takes line left is on fit c spelled other) le below a =
    rw spelled (order_by show h n line c on.0 other.0 le a)
agrees_by show h n _ (darkens line left is on) le below a = dim_by show h n _ below on.0 le a
agrees_by show h n _ (dims on owed) le below a = dim_by show h n _ below on.0 le a
agrees_by show h n _ (leaves line left is on) le below a =
    close_by show h n _ below (on_none _ on.0) (rw (on_only _ on.0) refl) le a
agrees_by show h n _ (closes dark) le below a =
    let s = (dark_only (stage (answers h)) dark).1 in
    close_by show h n _ below (rw s refl) (rw s refl) le a
agrees_by show h n _ (ticks on light late) le below a =
    let timely : IsTimely (accepted_acts show (answers h)) (next_tick (answers h)) n =
    (omega (arith, a.moment), a.past) in
    rw (tick_accepted show _ (next_tick (answers h)) n (stage (answers h)) below timely a.since
    on late)
    (record {
      moment = omega arith;
      since = ap (desk.ended_by desk.tick) a.since ∙ tick_ends (stage (answers h)) n;
      past = omega arith;
      dark = tick_dims (stage (answers h)) n _ a.dark;
    })
agrees_by show h n _ _ le below a = record {
  moment = omega (arith, a.moment);
  since = a.since;
  past = a.past;
  dark = a.dark;
}

agrees : (show : Tables) (h : List Happening)
    → Agrees (accepted_acts show (answers h)) (answers h) (now h)
agrees show = through (λ given n. Agrees (accepted_acts show given) given n)
    (record { moment = omega arith; since = refl; past = omega arith; dark = tt })
    (agrees_by show)

pub ends_accepted : (show : Tables) (h : List Happening)
    → desk.ticks_since_end (accepted_acts show (answers h)) ≡ since_end (stage (answers h))
ends_accepted show h = (agrees show h).since

pub ends_dark : (show : Tables) (h : List Happening)
    → IsDim (stage (answers h)) (desk.settings (accepted_acts show (answers h)))
ends_dark show h = (agrees show h).dark

tick_only : (show : Tables) (h : List Happening) (m n : ℕ) → Next h m (tick n) → m < 2 ^ 48
    → now h ≤ m → Agrees (accepted_acts show (answers h)) (answers h) (now h)
    → refusal show (accepted_acts show (answers h)) (act n desk.tick) ≡ None
tick_only show h m _ (ticks on light late) below le a =
    tick_accepted show (accepted_acts show (answers h)) (next_tick (answers h)) m
    (stage (answers h)) below
    (omega (arith, a.moment), a.past) a.since on late

pub ticks_accepted : (show : Tables) (h : List Happening) (moment n : ℕ)
    → answer_to h moment ≡ tick n
    → refusal show (accepted_acts show (answers h)) (act n desk.tick) ≡ None
ticks_accepted show h moment n is =
    tick_only show h _ n (rw is at (answer_is_next h moment)) (clock_below (asked moment ∷ h))
    (omega arith) (agrees show h)
