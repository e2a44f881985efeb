-- The answer to what is asked, and what is kept then.
use Rattle.live_input.proofs.Terms.{arith, ◌≡◌, ℕ, max, min, Bool, false, refl, sym, ◌∙◌, List, []}
use Rattle.live_input.proofs.Terms.{◌∷◌, ◌++◌, Option, Some, None, Progress, InputState, TypedKept}
use Rattle.live_input.proofs.Terms.{Answer, Happening, answer_to, answers, asked, before_lines}
use Rattle.live_input.proofs.Terms.{bytes_come, close, dim, by_itself, ignored_keys, is_on, is_over}
use Rattle.live_input.proofs.Terms.{is_through, lines_answered, now, request_of, stage, to_line}
use Rattle.live_input.proofs.Terms.{to_request, Request, Nothing, Where, Help, Leave, Finish, Order}
use Rattle.live_input.proofs.Terms.{has_keys, StandsFor, TakesLine, TypedStands, Given, Leaves}
use Rattle.live_input.proofs.Terms.{Tells, TellsFirst}
use Rattle.live_input.proofs.TypedLemmas.{none_left}

pub request_more : (given : List Answer) (n : ℕ) (line : List ℕ) (request : Request)
    → lines_answered (to_request n line request ∷ given) ≡ lines_answered given ++ line ∷ []
request_more given n line (Nothing why) = refl
request_more given n line Where = refl
request_more given n line Help = refl
request_more given n line Leave = refl
request_more given n line Finish = refl
request_more given n line (Order c) = refl

request_keys : (given : List Answer) (n : ℕ) (line : List ℕ) (request : Request)
    → ignored_keys (to_request n line request ∷ given) ≡ has_keys line
request_keys given n line (Nothing why) = refl
request_keys given n line Where = refl
request_keys given n line Help = refl
request_keys given n line Leave = refl
request_keys given n line Finish = refl
request_keys given n line (Order c) = refl

-- a line that was typed is answered
one_more : (given : List Answer) (n : ℕ) (line : List ℕ)
    → lines_answered (to_line given n line ∷ given) ≡ lines_answered given ++ line ∷ []
one_more given n line = request_more given n line (request_of (is_on (stage given)) n line)

-- what comes before any line answers none
first_none : (given : List Answer) (n : ℕ) (answer : Answer) → before_lines given n ≡ Some answer
    → lines_answered (answer ∷ given) ≡ lines_answered given
first_none given n answer is = grind (arith, is)

first_quiet : (given : List Answer) (n : ℕ) (answer : Answer) → before_lines given n ≡ Some answer
    → false ≡ ignored_keys (answer ∷ given)
first_quiet given n answer is = grind (arith, is)

quiet : (given : List Answer) (ends : Bool) (n : ℕ)
    → false ≡ ignored_keys (by_itself given ends n ∷ given)
quiet given ends n = grind arith

-- what comes by itself answers none
none_more : (given : List Answer) (ends : Bool) (n : ℕ)
    → lines_answered (by_itself given ends n ∷ given) ≡ lines_answered given
none_more given ends n = grind arith

module _ {kept : InputState} {h : List Happening} {low clock : ℕ} {is_last : Bool} (moment : ℕ)
    (typed : TypedKept) (s : StandsFor kept h) (last : is_last ≡ is_through kept.progress.stage)
    (on : is_last ≡ false) (low_is : low ≡ min moment 281474976710655)
    (clock_is : clock ≡ max kept.now low) where
  -- the night is not over, and the clock was set
  not_over : is_over (answers h) ≡ false
  not_over = rw s.leaves.stage_is at (sym last ∙ on)

  clock_set : clock ≡ now (asked moment ∷ h)
  clock_set = rw (← low_is, ← s.now_is) clock_is

  -- an answer is that to what is asked, and what is kept with these parts stands for both
  abbrev IsAnswered : Bool → Answer → Type 0
  IsAnswered keys answer = (answer ≡ answer_to h moment)
      × ((progress : Progress) → Leaves progress (answer ∷ answers h)
      → StandsFor (record {
        typed = typed;
        ends = kept.ends;
        now = clock;
        keys = keys;
        progress = progress;
      }) (asked moment ∷ h))

  answered : (keys : Bool) (answer : Answer) → answer ≡ answer_to h moment
      → TypedStands typed (bytes_come h) (lines_answered (answer ∷ answers h))
      → keys ≡ ignored_keys (answer ∷ answers h) → IsAnswered keys answer
  answered keys answer is stands quiet = (
    is,
    λ progress leaves. record {
      typed_stands = rw is at stands;
      ends_is = s.ends_is;
      now_is = clock_set;
      keys_is = rw is at quiet;
      leaves = rw is at leaves;
    },
  )

  -- something comes before any line
  pub first_answered : (answer : Answer) → typed ≡ kept.typed
      → before_lines (answers h) clock ≡ Some answer → IsAnswered false answer
  first_answered answer same first =
      let set = rw clock_set at first in
      answered false answer (rw (not_over, set) refl)
      (rw (first_none (answers h) clock answer first, same) s.typed_stands)
      (first_quiet (answers h) clock answer first)

  -- a line was taken
  pub line_answered : (line : List ℕ) → before_lines (answers h) clock ≡ None
      → TakesLine kept.typed typed (Some line)
      → IsAnswered (has_keys line) (to_line (answers h) clock line)
  line_answered line first takes =
      let took = takes (bytes_come h) (lines_answered (answers h)) s.typed_stands in
      let set = rw clock_set at first in
      answered (has_keys line) (to_line (answers h) clock line)
      (rw (clock_set, not_over, set, took.0.1) refl) (rw (one_more (answers h) clock line) took.1)
      (sym (request_keys (answers h) clock line
      (request_of (is_on (stage (answers h))) clock line)))

  -- none was left
  pub none_answered : before_lines (answers h) clock ≡ None → TakesLine kept.typed typed None
      → typed.unread ≡ [] → IsAnswered false (by_itself (answers h) kept.ends clock)
  none_answered first takes unread =
      let took = takes (bytes_come h) (lines_answered (answers h)) s.typed_stands in
      let set = rw clock_set at first in
      answered false (by_itself (answers h) kept.ends clock)
      (rw (clock_set, s.ends_is, not_over, set, none_left typed (bytes_come h) _ took unread) refl)
      (rw (none_more (answers h) kept.ends clock) took) (quiet (answers h) kept.ends clock)

-- what was told of what comes before any line
pub some_first : (given : Given) (first : Option Answer) → TellsFirst (Some given) first
    → (answer : Answer) × ((first ≡ Some answer) × Tells given answer)
some_first given (Some answer) tells = (answer, (refl, tells))
some_first given None tells = elim tells [ ]

pub none_first : (first : Option Answer) → TellsFirst None first → first ≡ None
none_first None tells = refl
none_first (Some answer) tells = elim tells [ ]

-- what a line asks for decides its answer
pub line_asks : (progress : Progress) (n : ℕ) (line : List ℕ) (given : List Answer) (on : Bool)
    (request : Request) → Leaves progress given → on ≡ is_on progress.stage
    → request ≡ request_of on n line → to_line given n line ≡ to_request n line request
line_asks progress n line given on request leaves is asks =
    rw (asks, is, leaves.stage_is) refl

-- what is kept does not tell whether a line asked for the end
pub dim_leaves : (progress : Progress) (n : ℕ) (line : List ℕ) (given : List Answer)
    → Leaves progress (dim n None ∷ given) → Leaves progress (dim n (Some line) ∷ given)
dim_leaves progress n line given l = record {
  due_is = l.due_is;
  stage_is = l.stage_is;
  ticked_is = l.ticked_is;
}

pub close_leaves : (progress : Progress) (n : ℕ) (line : List ℕ) (given : List Answer)
    → Leaves progress (close n None ∷ given) → Leaves progress (close n (Some line) ∷ given)
close_leaves progress n line given l = record {
  due_is = l.due_is;
  stage_is = l.stage_is;
  ticked_is = l.ticked_is;
}
