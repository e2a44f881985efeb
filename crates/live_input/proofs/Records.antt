-- Each record of a live night is given again.
use Rattle.live_input.proofs.Terms.{None, ◌≡◌, ◌≤◌, ◌<◌, ◌^◌, ℕ, true, false, refl, ap, ◌∙◌, arith}
use Rattle.live_input.proofs.Terms.{List, [], ◌∷◌, ◌++◌, length, append_assoc, Option, Some, ◌==◌}
use Rattle.live_input.proofs.Terms.{nat_le, unwrap_or, All, codes, decimal, cond_both, le-leb}
use Rattle.live_input.proofs.Terms.{nat_tests, All-head, drop-append-add, drop-append_seam}
use Rattle.live_input.proofs.Terms.{drop-length, words_of, Instruction, Plain, End, Master, instruction_of, Text}
use Rattle.live_input.proofs.Terms.{Stage, On, Dark, Ended, Request, Leave, Order, without_keys}
use Rattle.live_input.proofs.Terms.{RecordsAreRecalled, Answer, Happening, answers, asked}
use Rattle.live_input.proofs.Terms.{behind_moment, by_itself, bytes_come, came, next_tick}
use Rattle.live_input.proofs.Terms.{ends_with_input, goes_first, is_light_down, is_through}
use Rattle.live_input.proofs.Terms.{lines_answered, lines_given, unanswered_lines, now, stage}
use Rattle.live_input.proofs.Terms.{stage_by, to_request, was_tick, words_asked, order, dim, close}
use Rattle.live_input.proofs.Terms.{tick, over, AreRecalled, recall_of, recall_line, typed_of}
use Rattle.console.specs.declared.call.Call.TheVariants as call
use Rattle.live_input.proofs.Answering.{request_more}
use Rattle.live_input.proofs.Cases.{HasTurn, Keeps, Ordinary, closes, darkens, dims, leaves, takes}
use Rattle.live_input.proofs.Cases.{through, ticks}
use Rattle.live_input.proofs.Fine.{NotLf, left_no_lf, line_typed, spells, word_fits, word_whole}
use Rattle.live_input.proofs.KeyLemmas.{keys_short, keys_whole, spaced, text_again}
use Rattle.live_input.proofs.Nights.{behind_tick, dark_only, on_only}
use Rattle.live_input.proofs.Recalling.{recalled_is, words_typed}
use Rattle.live_input.proofs.Spelled.{reading_is}

-- ---- what is answered where a night is given again

-- the commands without keys, `master 0` as any command, and `leave` for each `end`
abbrev told : List Answer → List Answer
told [] = []
told (order n line ∷ older) = order n (without_keys line) ∷ told older
told (dim n typed ∷ older) = order n (codes "master 0") ∷ told older
told (close n typed ∷ older) = close n (Some (codes "leave")) ∷ told older
told (tick n ∷ older) = tick n ∷ told older
told (_ ∷ older) = told older

due_told : (given : List Answer) → next_tick (told given) ≡ next_tick given
due_told [] = refl
due_told (tick n ∷ older) = refl
due_told (_ ∷ older) = due_told older

ticked_told : (given : List Answer) → was_tick given ≡ true → was_tick (told given) ≡ true
ticked_told [] is = refl
ticked_told (tick n ∷ older) is = refl
ticked_told (over ∷ older) is = ticked_told older is
ticked_told (_ ∷ older) is = cc

no_tick : (given : List Answer) (n : ℕ) → goes_first given n ≡ false
    → goes_first (told given) n ≡ false
no_tick given n none = grind (arith, nat_tests, none, due_told, ticked_told)

-- the light is up until `end`
abbrev lit : Stage → Stage
lit (Dark count) = On
lit s = s

lit_by : (n : ℕ) (typed leave : Option (List ℕ)) (s : Stage)
    → (stage_by (tick n) (lit s) ≡ lit (stage_by (tick n) s))
    × (lit s ≡ lit (stage_by (dim n typed) s))
    × (stage_by (close n leave) (lit s) ≡ lit (stage_by (close n typed) s))
lit_by n typed leave On = (refl, refl, refl)
lit_by n typed leave s = (refl, refl, refl)

stage_told : (given : List Answer) → stage (told given) ≡ lit (stage given)
stage_told [] = refl
stage_told (dim n typed ∷ older) = stage_told older ∙ (lit_by n typed None (stage older)).1
stage_told (close n typed ∷ older) = rw (stage_told older)
    (lit_by n typed (Some (codes "leave")) (stage older)).2
stage_told (tick n ∷ older) = rw (stage_told older) (lit_by n None None (stage older)).0
stage_told (_ ∷ older) = stage_told older

-- a line has its turn where it had it
abbrev IsTurn : List Answer → ℕ → Type 0
IsTurn given n = (stage given ≡ On) × (goes_first given n ≡ false)

turn_told : (h : List Happening) (n : ℕ) → HasTurn (answers h) n → IsTurn (told (answers h)) n
turn_told h n turn = (
  stage_told (answers h) ∙ rw (on_only (stage (answers h)) turn.0) refl,
  no_tick (answers h) n turn.1,
)

-- the night is not over, and the light not to go
lit_still : (s : Stage) → is_through s ≡ false
    → (is_through (lit s) ≡ false) × (is_light_down (lit s) ≡ false)
lit_still (Ended count) still = (still, refl)
lit_still s still = (refl, refl)

-- ---- a line more

-- a line that asks for something has words
says_some : (words : List (List ℕ)) (instruction : Instruction) → words_asked true words ≡ Order instruction
    → (length words == 0) ≡ false
says_some [] instruction some = cc
says_some (word ∷ words) instruction some = grind (arith, nat_tests)

-- these lines are given again, with these answers, and each line that is typed is answered
record Replays (lines : List (List ℕ)) (given : List Answer) : Type 0 where
  are_recalled : AreRecalled lines
  answers_are : answers (recall_of lines) ≡ given
  none_left : typed_of (bytes_come (recall_of lines))
      ≡ record { lines = lines_answered given; rest = [] }
  holds : ends_with_input (recall_of lines) ≡ false

abbrev ReplaysBy : List (List ℕ) → List Answer → ℕ → Type 0
ReplaysBy lines given n = Replays lines given × (now (recall_of lines) ≤ n)

module _ {lines : List (List ℕ)} {given : List Answer} (n : ℕ) (k : Replays lines given)
    (le : now (recall_of lines) ≤ n) (below : n < 2 ^ 48) where
  abbrev r : List Happening
  r = recall_of lines

  clock_is : now (asked n ∷ r) ≡ n
  clock_is = omega arith

  more : (after : List Happening) (line : List ℕ) (answer : Answer) → recall_line line r ≡ after
      → now after ≡ n → ends_with_input after ≡ false → answers after ≡ answer ∷ given
      → typed_of (bytes_come after) ≡ record { lines = lines_answered (answer ∷ given); rest = [] }
      → length line ≤ 200 → lines_given (answer ∷ given) ≡ line ∷ lines_given given
      → ReplaysBy (line ∷ lines) (answer ∷ given) n
  more after line answer same clock holds is left short gives = (
    record {
      are_recalled = (
        record {
          short = short;
          given = rw (same, is, k.answers_are) gives;
          none_left = rw (same, is, left) (drop-length (lines_answered (answer ∷ given)));
        },
        k.are_recalled,
      );
      answers_are = rw same is;
      none_left = rw same left;
      holds = rw same holds;
    },
    rw (same) (omega arith),
  )

  replay_tick : is_through (stage given) ≡ false → is_light_down (stage given) ≡ false
      → next_tick given ≤ n
      → ReplaysBy (behind_moment n (codes "tick") ∷ lines) (tick n ∷ given) n
  replay_tick on light late =
      let due_is : nat_le (next_tick given) n ≡ true = le-leb (next_tick given) n late in
      let rest : Answer = by_itself given false n in
      let itself : rest ≡ tick n = grind (arith, due_is) in
      let is : answers (asked n ∷ r) ≡ tick n ∷ given =
      rw (k.answers_are, on, light, clock_is, k.none_left, drop-length, k.holds)
      (cond_both (goes_first given n) _ _ (λ first. unwrap_or first rest ∷ given ≡ tick n ∷ given)
      (λ first. refl) (λ none. ap (λ answer. answer ∷ given) itself)) in
      more (asked n ∷ r) (behind_moment n (codes "tick")) (tick n)
      (recalled_is (behind_moment n (codes "tick")) r n call.Tick
      (reading_is n (codes "tick") below))
      clock_is k.holds is k.none_left (word_fits n (codes "tick") below (omega arith)) refl

  -- words are typed, and the answer is a line of others
  replay_line : (text words : List ℕ) (request : Request) → IsTurn given n
      → length (behind_moment n text) ≤ 200 → All NotLf text → (length (words_of text) == 0) ≡ false
      → words_asked true (words_of (without_keys text)) ≡ request
      → length (behind_moment n words) ≤ 200
      → recall_line (behind_moment n words) r ≡ asked n ∷ came (text ++ 10 ∷ []) ∷ r
      → lines_given (to_request n text request ∷ given) ≡ behind_moment n words ∷ lines_given given
      → ReplaysBy (behind_moment n words ∷ lines) (to_request n text request ∷ given) n
  replay_line text words request turn fit whole says asks short same gives =
      let then : List Happening = came (text ++ 10 ∷ []) ∷ r in
      let short_too : length text ≤ 200 = omega (arith, spaced n text, fit) in
      let typed = line_typed (bytes_come r) text (lines_answered given) k.none_left whole short_too
      (rw (le-leb (length text) 200 short_too) says) in
      let left : unanswered_lines given then ≡ text ∷ [] =
      rw typed (drop-append_seam (lines_answered given) (text ∷ [])) in
      let is : answers (asked n ∷ then) ≡ to_request n text request ∷ given =
      rw (k.answers_are, turn.0, clock_is, turn.1, left, le-leb _ 200 fit, turn.0, asks) refl in
      more (asked n ∷ then) (behind_moment n words) (to_request n text request) same clock_is
      k.holds is
      (rw (request_more given n text request) typed) short gives

  replay_order : (text : List ℕ) (instruction : Instruction) → IsTurn given n
      → length (behind_moment n text) ≤ 200 → All NotLf text
      → instruction_of (words_of text) ≡ Some instruction → Ordinary text instruction
      → without_keys text ≡ text
      → ReplaysBy (behind_moment n text ∷ lines) (order n text ∷ given) n
  replay_order text instruction turn fit whole some asks keys =
      let says = says_some (words_of text) instruction (rw keys at asks.1) in
      let typed = words_typed n instruction (behind_moment n text ++ 10 ∷ []) r
      (λ e. let no = rw e at asks.0 in cc)
      ∙ ap (λ words. came words ∷ r)
      (rw (append_assoc, append_assoc)
      (drop-append-add (decimal n) (codes " " ++ (text ++ 10 ∷ [])) 1)) in
      replay_line text text (Order instruction) turn fit whole says asks.1 fit
      (recalled_is (behind_moment n text) r n (call.Order instruction)
      (spells n text below (Some instruction) some refl).0 ∙ ap (λ happened. asked n ∷ happened) typed)
      (rw keys refl)

  replay_dim : IsTurn given n
      → ReplaysBy (behind_moment n (codes "master 0") ∷ lines)
      (order n (codes "master 0") ∷ given) n
  replay_dim turn = replay_order (codes "master 0") (Plain (Master 0)) turn
      (word_fits n (codes "master 0") below (omega arith)) (word_whole (codes "master 0") refl)
      refl (refl, refl) refl

  replay_end : IsTurn given n
      → ReplaysBy (behind_moment n (codes "end") ∷ lines) (close n (Some (codes "leave")) ∷ given) n
  replay_end turn = replay_line (codes "leave") (codes "end") Leave turn
      (word_fits n (codes "leave") below (omega arith)) (word_whole (codes "leave") refl) refl refl
      (word_fits n (codes "end") below (omega arith))
      (recalled_is (behind_moment n (codes "end")) r n (call.Order (Plain End))
      (reading_is n (codes "end") below)) refl

-- ---- each line of a night

-- the light is down behind a tick
abbrev IsKept : List Answer → ℕ → Type 0
IsKept given n = ReplaysBy (lines_given given) (told given) n
    × (is_light_down (stage given) ≡ true → was_tick (told given) ≡ true)

kept_by : Keeps IsKept
kept_by h n _ (takes line left is on fit c spelled asks) le below k =
    let same = text_again Text line in
    let whole = keys_whole NotLf line (All-head (All NotLf) line left (rw is at (left_no_lf h))) in
    let up = on_only (stage (answers h)) on.0 in (
      replay_order n k.0.0 (omega (arith, k.0.1)) below (without_keys line) c (turn_told h n on)
          (keys_short n line fit) whole spelled (asks.0, rw same asks.1) same,
      rw up (λ dark. dark),
    )
kept_by h n _ (darkens line left is on) le below k =
    let up = on_only (stage (answers h)) on.0 in
    (replay_dim n k.0.0 (omega (arith, k.0.1)) below (turn_told h n on), rw up (λ dark. dark))
kept_by h n _ (dims on owed) le below k =
    let up = on_only (stage (answers h)) on.0 in
    (replay_dim n k.0.0 (omega (arith, k.0.1)) below (turn_told h n on), rw up (λ dark. dark))
kept_by h n _ (leaves line left is on) le below k =
    let up = on_only (stage (answers h)) on.0 in
    (replay_end n k.0.0 (omega (arith, k.0.1)) below (turn_told h n on), rw up (λ dark. dark))
kept_by h n _ (closes dark) le below k =
    let down = (dark_only (stage (answers h)) dark).1 in
    let turn : IsTurn (told (answers h)) n = (
      stage_told (answers h) ∙ rw down refl,
      behind_tick (told (answers h)) n (k.1 dark),
    ) in
    (replay_end n k.0.0 (omega (arith, k.0.1)) below turn, rw down (λ dark. dark))
kept_by h n _ (ticks on light late) le below k =
    let still = rw (← (stage_told (answers h))) at (lit_still (stage (answers h)) on) in
    let due_is : next_tick (told (answers h)) ≤ n = omega (arith, late, due_told (answers h)) in
    (replay_tick n k.0.0 (omega (arith, k.0.1)) below still.0 still.1 due_is, λ dark. refl)
kept_by h n _ _ le below k = ((k.0.0, omega (arith, k.0.1)), k.1)

pub records_recalled : RecordsAreRecalled
records_recalled h = (through IsKept (
  (record { are_recalled = tt; answers_are = refl; none_left = refl; holds = refl }, omega arith),
  λ dark. cc,
) kept_by h).0.0.are_recalled
