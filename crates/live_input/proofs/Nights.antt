-- What holds through a night.
use Rattle.live_input.proofs.Terms.{◌≤◌, ℕ, List, [], ◌∷◌, arith, ◌≡◌, true, false, length, None}
use Rattle.live_input.proofs.Terms.{◌↔◌, refl, ◌++◌, drop, append_assoc, append-nil, Bool}
use Rattle.live_input.proofs.Terms.{filter_map, nat_tests, drop-append_seam, AlwaysRise}
use Rattle.live_input.proofs.Terms.{LinesFollowTicks, Rise, TicksGoFirst, moment_given, IsEnding}
use Rattle.live_input.proofs.Terms.{tick_moment, was_left, words_given, Answer, Happening, answers}
use Rattle.live_input.proofs.Terms.{next_tick, now, dim, stage, ends_with_input, is_light_down}
use Rattle.live_input.proofs.Terms.{is_on, is_through, answer_to, asked, bytes_come, came, closed}
use Rattle.live_input.proofs.Terms.{is_over, Stage, On, Dark, Ended, goes_first, lines_answered}
use Rattle.live_input.proofs.Terms.{unanswered_lines, over, wait, was_tick, typed_of}
use Rattle.live_input.proofs.Cases.{Keeps, Next, closes, takes, through, ticks, answer_is_next}
use Rattle.live_input.proofs.Cases.{nothing, places, helps, refuses, waits, darkens, dims, leaves}
use Rattle.live_input.proofs.Ending.{ends_whole}
use Rattle.live_input.proofs.TypedLemmas.{Adds, grows}

-- ---- the moments of lines and of ticks

later : (gap m n : ℕ) (ms : List ℕ) → m ≤ n → Rise gap (m ∷ ms) → Rise gap (n ∷ ms)
later gap m n [] le rise = tt
later gap m n (newest ∷ older) le rise = (omega (arith, rise.0), rise.1)

without : (gap n : ℕ) (ms : List ℕ) → Rise gap (n ∷ ms) → Rise gap ms
without gap n [] rise = tt
without gap n (newest ∷ older) rise = rise.1

moment_by : Keeps (λ given n. Rise 0 (n ∷ filter_map moment_given given))
moment_by h n _ (takes _ _ _ _ _ _ _ _) le below rise = (omega arith, later 0 _ n _ le rise)
moment_by h n _ (darkens _ _ _ _) le below rise = (omega arith, later 0 _ n _ le rise)
moment_by h n _ (leaves _ _ _ _) le below rise = (omega arith, later 0 _ n _ le rise)
moment_by h n _ (dims _ _) le below rise = (omega arith, later 0 _ n _ le rise)
moment_by h n _ (closes _) le below rise = (omega arith, later 0 _ n _ le rise)
moment_by h n _ (ticks _ _ _) le below rise = (omega arith, later 0 _ n _ le rise)
moment_by h n _ _ le below rise = later 0 (now h) n (filter_map moment_given (answers h)) le rise

pub moments_rise : AlwaysRise 0 moment_given
moments_rise h = without 0 (now h) (filter_map moment_given (answers h))
    (through (λ given n. Rise 0 (n ∷ filter_map moment_given given)) tt moment_by h)

tick_by : Keeps (λ given n. Rise 23 (next_tick given ∷ filter_map tick_moment given))
tick_by h n _ (ticks on light late) le below rise = (omega arith, later 23 _ n _ late rise)
tick_by h n _ _ le below rise = rise

pub ticks_rise : AlwaysRise 23 tick_moment
ticks_rise h = without 23 (next_tick (answers h)) (filter_map tick_moment (answers h))
    (through (λ given n. Rise 23 (next_tick given ∷ filter_map tick_moment given)) tt tick_by h)

-- ---- the ticks of each stage

pub on_only : (s : Stage) → is_on s ≡ true → s ≡ On
on_only On on = refl
on_only s on = cc

pub dark_only : (s : Stage) → is_light_down s ≡ true → (count : ℕ) × (s ≡ Dark count)
dark_only (Dark count) dark = (count, refl)
dark_only s dark = cc

-- there are at most three behind `end`
three : (s : Stage) (left : Bool) (given : List (List ℕ)) → IsEnding s left given
    → is_through s ≡ true → s ≡ Ended 3
three (Ended k) true given ends through = grind (arith, nat_tests, ends.0, through)
three (Ended k) false given ends through = grind (arith, nat_tests, ends.0, through)
three s left given ends through = cc

pub just_three : (h : List Happening) → is_over (answers h) ≡ true → stage (answers h) ≡ Ended 3
just_three h is = three (stage (answers h)) (was_left (answers h)) (words_given (answers h))
    (ends_whole h) is

-- ---- the order of the lines

-- the lines that were typed
abbrev lines : List Happening → List (List ℕ)
lines h = (typed_of (bytes_come h)).lines

-- what is left of them
left_is : (answered all left : List (List ℕ)) → Adds answered all
    → drop (length answered) all ≡ left → all ≡ answered ++ left
left_is answered all left b is = rw (← (rw (b.1, drop-append_seam) at is)) b.1

one_answered : (answered all later : List (List ℕ)) (line : List ℕ) → Adds answered all
    → drop (length answered) all ≡ line ∷ later → Adds (answered ++ line ∷ []) all
one_answered answered all later line b is =
    (later, rw append_assoc (left_is answered all (line ∷ later) b is))

begins_by : (h : List Happening) (n : ℕ) (answer : Answer) → Next h n answer
    → Adds (lines_answered (answers h)) (lines h)
    → Adds (lines_answered (answer ∷ answers h)) (lines h)
begins_by h n _ (takes line later is _ _ _ _ _) b = one_answered _ (lines h) later line b is
begins_by h n _ (darkens line later is _) b = one_answered _ (lines h) later line b is
begins_by h n _ (leaves line later is _) b = one_answered _ (lines h) later line b is
begins_by h n _ (places line later is _) b = one_answered _ (lines h) later line b is
begins_by h n _ (helps line later is _) b = one_answered _ (lines h) later line b is
begins_by h n _ (refuses why line later is _) b = one_answered _ (lines h) later line b is
begins_by h n _ _ b = b

pub begins : (h : List Happening) → Adds (lines_answered (answers h)) (lines h)
begins [] = ([], refl)
begins (asked moment ∷ h) = begins_by h _ _ (answer_is_next h moment) (begins h)
begins (came bytes ∷ h) = grows _ (bytes_come h) bytes (begins h)
begins (closed ends ∷ h) = grows _ (bytes_come h) (10 ∷ []) (begins h)

none_left : (h : List Happening) → unanswered_lines (answers h) h ≡ []
    → lines h ≡ lines_answered (answers h)
none_left h is = rw append-nil at (left_is (lines_answered (answers h)) (lines h) [] (begins h) is)

waits_only : (h : List Happening) (m n : ℕ) → Next h m (wait n)
    → lines h ≡ lines_answered (answers h)
waits_only h m _ (waits is on) = none_left h is

pub waits_last : (h : List Happening) (moment n : ℕ) → answer_to h moment ≡ wait n
    → lines h ≡ lines_answered (answers h)
waits_last h moment n is = waits_only h _ n (rw is at (answer_is_next h moment))

late_first : (given : List Answer) (n : ℕ) → was_tick given ≡ false → next_tick given ≤ n
    → goes_first given n ≡ true
late_first given n none late = grind (arith, nat_tests, none, late)

pub ticks_first : TicksGoFirst
ticks_first h moment on none late = rw (on.0, on.1, late_first (answers h) _ none late) refl

pub behind_tick : (given : List Answer) (n : ℕ) → was_tick given ≡ true → goes_first given n ≡ false
behind_tick given n ticked = grind (arith, nat_tests, ticked)

pub lines_follow : LinesFollowTicks
lines_follow h moment line later on ticked left =
    rw (on.0, on.1, behind_tick (answers h) (now (asked moment ∷ h)) ticked, left) refl

-- ---- the end

dim_only : (h : List Happening) (m n : ℕ) → Next h m (dim n None) → ends_with_input h ≡ true
dim_only h m _ (dims on owed) = owed

pub ends_asked : (h : List Happening) (moment n : ℕ) → answer_to h moment ≡ dim n None
    → ends_with_input h ≡ true
ends_asked h moment n is = dim_only h _ n (rw is at (answer_is_next h moment))

over_only : (h : List Happening) (n : ℕ) → Next h n over → is_over (answers h) ≡ true
over_only h n (nothing e) = e

pub over_is : (h : List Happening) (moment : ℕ)
    → (answer_to h moment ≡ over) ↔ (stage (answers h) ≡ Ended 3)
over_is h moment = (
  λ is. just_three h (over_only h _ (rw is at (answer_is_next h moment))),
  λ is. rw is refl,
)
