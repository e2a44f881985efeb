-- The answers that there are, and what holds through a night.
use Rattle.live_input.proofs.Terms.{◌≡◌, ◌≤◌, ◌<◌, ◌^◌, ℕ, true, false, refl, arith, List, [], ◌∷◌}
use Rattle.live_input.proofs.Terms.{length, Some, None, ◌&&◌, nat_le, unwrap_or, and_parts}
use Rattle.live_input.proofs.Terms.{cond_both, le-leb, leb-true, words_of, Instruction, instruction_of}
use Rattle.live_input.proofs.Terms.{Answer, Happening, answer_to, answers, asked, behind_moment}
use Rattle.live_input.proofs.Terms.{IsOn, before_lines, next_tick, ends_with_input, goes_first}
use Rattle.live_input.proofs.Terms.{is_light_down, is_on, is_over, unanswered_lines, now}
use Rattle.live_input.proofs.Terms.{request_of, stage, to_lines, to_request, words_asked, order}
use Rattle.live_input.proofs.Terms.{dim, close, tick, place, help, refusal, wait, over, Reason}
use Rattle.live_input.proofs.Terms.{Request, Nothing, Where, Help, Leave, Finish, Order}
use Rattle.live_input.proofs.Terms.{without_keys}
use Rattle.live_input.proofs.Asked.{Meets, is_end, request_meets}

-- commands are taken, and no tick goes first
abbrev pub HasTurn : List Answer → ℕ → Type 0
HasTurn given n = (is_on (stage given) ≡ true) × (goes_first given n ≡ false)

-- a line asks for an instruction, which is no `end`
abbrev pub Ordinary : List ℕ → Instruction → Type 0
Ordinary line instruction = (is_end instruction ≡ false)
    × (words_asked true (words_of (without_keys line)) ≡ Order instruction)

-- each answer at a moment after these happenings, and when it comes
pub data Next (h : List Happening) (n : ℕ) : Answer → Type 0 where
  nothing : is_over (answers h) ≡ true → Next h n over
  takes : (line : List ℕ) (later : List (List ℕ)) → unanswered_lines (answers h) h ≡ line ∷ later
      → HasTurn (answers h) n → length (behind_moment n line) ≤ 200
      → (instruction : Instruction) → instruction_of (words_of (without_keys line)) ≡ Some instruction
      → Ordinary line instruction → Next h n (order n line)
  darkens : (line : List ℕ) (later : List (List ℕ)) → unanswered_lines (answers h) h ≡ line ∷ later
      → HasTurn (answers h) n → Next h n (dim n (Some line))
  leaves : (line : List ℕ) (later : List (List ℕ)) → unanswered_lines (answers h) h ≡ line ∷ later
      → HasTurn (answers h) n → Next h n (close n (Some line))
  places : (line : List ℕ) (later : List (List ℕ)) → unanswered_lines (answers h) h ≡ line ∷ later
      → IsOn (answers h) → Next h n (place n line)
  helps : (line : List ℕ) (later : List (List ℕ)) → unanswered_lines (answers h) h ≡ line ∷ later
      → IsOn (answers h) → Next h n (help line)
  refuses : (why : Reason) (line : List ℕ) (later : List (List ℕ))
      → unanswered_lines (answers h) h ≡ line ∷ later → IsOn (answers h)
      → Next h n (refusal why line)
  dims : HasTurn (answers h) n → ends_with_input h ≡ true → Next h n (dim n None)
  closes : is_light_down (stage (answers h)) ≡ true → Next h n (close n None)
  ticks : is_over (answers h) ≡ false → is_light_down (stage (answers h)) ≡ false
      → next_tick (answers h) ≤ n → Next h n (tick n)
  waits : unanswered_lines (answers h) h ≡ [] → IsOn (answers h)
      → Next h n (wait (next_tick (answers h)))

request_is : (h : List Happening) (n : ℕ) (line : List ℕ) (later : List (List ℕ))
    → IsOn (answers h) → goes_first (answers h) n ≡ false
    → unanswered_lines (answers h) h ≡ line ∷ later → (request : Request)
    → request_of (is_on (stage (answers h))) n line ≡ request
    → Meets (is_on (stage (answers h))) n line request → Next h n (to_request n line request)
request_is h n line later free none left (Nothing why) is m = refuses why line later left free
request_is h n line later free none left Where is m = places line later left free
request_is h n line later free none left Help is m = helps line later left free
request_is h n line later free none left Leave is m = leaves line later left (m, none)
request_is h n line later free none left Finish is m = darkens line later left (m, none)
request_is h n line later free none left (Order c) is m =
    takes line later left (m.0, none) m.1 c m.2 (m.3, rw (le-leb _ 200 m.1, m.0) at is)

lines_are : (h : List Happening) (n : ℕ) → IsOn (answers h)
    → goes_first (answers h) n ≡ false → (left : List (List ℕ))
    → unanswered_lines (answers h) h ≡ left
    → Next h n (to_lines left (answers h) (ends_with_input h) n)
lines_are h n on none [] is =
    cond_both (is_on (stage (answers h)) && ends_with_input h) _ _ (Next h n)
    (λ owed. let parts = and_parts _ _ owed in dims (parts.0, none) parts.1)
    (λ other. cond_both (nat_le (next_tick (answers h)) n) _ _ (Next h n)
    (λ late. ticks on.0 on.1 (leb-true _ n late)) (λ early. waits is on))
lines_are h n on none (line ∷ later) is = request_is h n line later on none is _ refl
    (request_meets (is_on (stage (answers h))) n line)

-- what comes before any line, or else the rest
first_is : (h : List Happening) (n : ℕ) → is_over (answers h) ≡ false → (rest : Answer)
    → (IsOn (answers h) → goes_first (answers h) n ≡ false → Next h n rest)
    → Next h n (unwrap_or (before_lines (answers h) n) rest)
first_is h n on rest later =
    cond_both (is_light_down (stage (answers h))) _ _ (λ b. Next h n (unwrap_or b rest))
    (λ dark. closes dark)
    (λ light. cond_both (goes_first (answers h) n) _ _ (λ b. Next h n (unwrap_or b rest))
    (λ first. ticks on light (leb-true _ n (and_parts _ _ first).0))
    (λ none. later (on, light) none))

pub answer_is_next : (h : List Happening) (moment : ℕ)
    → Next h (now (asked moment ∷ h)) (answer_to h moment)
answer_is_next h moment =
    let n = now (asked moment ∷ h) in
    cond_both (is_over (answers h)) _ _ (Next h n) (λ e. nothing e)
    (λ on. first_is h n on _
    (λ is none. lines_are h n is none (unanswered_lines (answers h) h) refl))

pub clock_below : (h : List Happening) → now h < 2 ^ 48
clock_below [] = omega arith
clock_below (asked moment ∷ h) = omega (arith, clock_below h)
clock_below (_ ∷ h) = clock_below h

-- each answer that may come next keeps it
abbrev pub Keeps : (List Answer → ℕ → Type 0) → Type 0
Keeps P = (h : List Happening) (n : ℕ) (answer : Answer) → Next h n answer → now h ≤ n
    → n < 2 ^ 48 → P (answers h) (now h) → P (answer ∷ answers h) n

-- what holds at first, and is kept by each answer, holds at any moment
pub through : (P : List Answer → ℕ → Type 0) → P [] 0 → Keeps P → (h : List Happening)
    → P (answers h) (now h)
through P none more [] = none
through P none more (asked moment ∷ h) =
    more h _ _ (answer_is_next h moment) (omega arith) (clock_below (asked moment ∷ h))
    (through P none more h)
through P none more (_ ∷ h) = through P none more h
