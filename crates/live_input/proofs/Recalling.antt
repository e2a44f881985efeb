-- Lines of a record that are given again.
use Rattle.live_input.proofs.Terms.{◌≡◌, ℕ, ◌+◌, refl, ap, sym, ◌∙◌, arith, List, [], ◌∷◌, ◌++◌}
use Rattle.live_input.proofs.Terms.{length, drop, Bool, true, false, Option, Some, None, IfNone}
use Rattle.live_input.proofs.Terms.{is_some, option_map, append_cancel_right, Instruction, Plain, Go, Back}
use Rattle.live_input.proofs.Terms.{Goto, GotoIn, Sub, Group, Master, End, Call, Tick, Reading, At}
use Rattle.live_input.proofs.Terms.{Blank, Malformed, reading_of, Given, GivenLine, Line, Over}
use Rattle.live_input.proofs.Terms.{Refused, Until, Answer, Happening, answer_to, answers, asked}
use Rattle.live_input.proofs.Terms.{came, bytes_come, lines_answered, lines_given, unanswered_lines}
use Rattle.live_input.proofs.Terms.{with_given, order, dim, close, tick, place, help, refusal, wait}
use Rattle.live_input.proofs.Terms.{over, AreRecalled, IsRecalled, recall_of, recall_line}
use Rattle.live_input.proofs.Terms.{recalled_by, typed_again, TypedKept, TakesLine, TypedStands}
use Rattle.live_input.proofs.Terms.{IsGiven, Tells, typed_of}
use Rattle.std.proofs.Common.{decimal, not}
use Rattle.console.specs.declared.call.Call.TheVariants.{Order}
use Rattle.live_input.specs.declared.given.Given.TheVariants.{Help}
use Rattle.live_input.specs.declared.given.Given.TheVariants.{Where}
use Rattle.live_input.proofs.TypedLemmas.{none_left}

-- ---- an answer, by what was given

pub record GivesLine (answer : Answer) (given : GivenLine) : Type 0 where
  pub line : List ℕ
  pub is_given : IsGiven given line
  pub lines_are : (older : List (List ℕ)) → with_given answer older ≡ line ∷ older

gives_line : (given : GivenLine) (answer : Answer) (line : List ℕ) → IsGiven given line
    → ((older : List (List ℕ)) → with_given answer older ≡ line ∷ older) → GivesLine answer given
gives_line given answer line is lines =
    record { line = line; is_given = is; lines_are = lines }

pub one_line : (given : GivenLine) (answer : Answer) → Tells (Line given) answer
    → GivesLine answer given
one_line given (order moment line) t = gives_line given _ _ t (λ _. refl)
one_line given (dim moment typed) t = gives_line given _ _ t (λ _. refl)
one_line given (close moment typed) t = gives_line given _ _ t (λ _. refl)
one_line given (tick moment) t = gives_line given _ _ t (λ _. refl)
one_line given _ t = absurd t

pub no_line : (given : Given) (answer : Answer) → ((line : GivenLine) → given ≡ Line line → ⊥)
    → Tells given answer → (older : List (List ℕ)) → with_given answer older ≡ older
no_line (Line line) answer not t older = absurd (not line refl)
no_line (Where moment) (place when line) not t older = refl
no_line Help (help line) not t older = refl
no_line (Refused text why) (refusal reason line) not t older = refl
no_line (Until moment) (wait due) not t older = refl
no_line Over over not t older = refl
no_line _ _ not t older = absurd t

-- ---- what is typed again

pub same_answers : (moment : ℕ) (call : Call) (line : List ℕ) (happened : List Happening)
    → answers (typed_again moment call line happened) ≡ answers happened
same_answers moment Tick line happened = refl
same_answers moment (Order (Plain Go)) line happened = refl
same_answers moment (Order (Plain Back)) line happened = refl
same_answers moment (Order (Plain (Goto n))) line happened = refl
same_answers moment (Order (GotoIn n time)) line happened = refl
same_answers moment (Order (Plain (Sub n byte))) line happened = refl
same_answers moment (Order (Plain (Group n byte))) line happened = refl
same_answers moment (Order (Plain (Master byte))) line happened = refl
same_answers moment (Order (Plain End)) line happened = refl

pub words_typed : (moment : ℕ) (instruction : Instruction) (line : List ℕ) (happened : List Happening)
    → (instruction ≡ Plain End → ⊥)
    → typed_again moment (Order instruction) line happened
    ≡ came (drop (length (decimal moment) + 1) line) ∷ happened
words_typed moment (Plain Go) line happened not = refl
words_typed moment (Plain Back) line happened not = refl
words_typed moment (Plain (Goto n)) line happened not = refl
words_typed moment (GotoIn n time) line happened not = refl
words_typed moment (Plain (Sub n byte)) line happened not = refl
words_typed moment (Plain (Group n byte)) line happened not = refl
words_typed moment (Plain (Master byte)) line happened not = refl
words_typed moment (Plain End) line happened not = absurd (not refl)

pub no_call : (reading : Reading) (line : List ℕ) (happened : List Happening)
    → ((moment : ℕ) (call : Call) → reading ≡ At moment call → ⊥)
    → recalled_by reading line happened ≡ happened
no_call (At moment call) line happened not = absurd (not moment call refl)
no_call Blank line happened not = refl
no_call Malformed line happened not = refl

pub one_more : (line : List ℕ) (older : List (List ℕ)) → older ≡ line ∷ older → ⊥
one_more line older is = let l = ap length is in omega (arith, l)

-- ---- a line that is given again, or another

module _ (line : List ℕ) (happened : List Happening) (moment : ℕ) (call : Call)
    (reads : reading_of line ≡ At moment call) where
  abbrev typed : List Happening
  typed = typed_again moment call (line ++ 10 ∷ []) happened

  pub recalled_is : recall_line line happened ≡ asked moment ∷ typed
  recalled_is = ap (λ reading. recalled_by reading line happened) reads

  -- what gives no line gives another
  pub none_given : (given : Given) → ((g : GivenLine) → given ≡ Line g → ⊥)
      → Tells given (answer_to typed moment) → IsRecalled line happened → ⊥
  none_given given not tells is =
      let none = no_line given (answer_to typed moment) not tells (lines_given (answers typed)) in
      one_more line (lines_given (answers happened))
      (rw (recalled_is, none, same_answers moment call (line ++ 10 ∷ []) happened) at is.given)

  -- a line that is given is this one where its text is
  pub same_line : (given : GivenLine) → Tells (Line given) (answer_to typed moment)
      → (text : List ℕ) → text ≡ line ++ 10 ∷ [] → given.text.items ≡ text
      → IsGiven given line
      × (lines_given (answers (recall_line line happened)) ≡ line ∷ lines_given (answers happened))
  same_line given tells text is same =
      let one = one_line given (answer_to typed moment) tells in
      let line_is : one.line ≡ line = append_cancel_right one.line line (10 ∷ [])
      (sym one.is_given.text_is ∙ same ∙ is) in (
        rw line_is at one.is_given,
        rw recalled_is (one.lines_are (lines_given (answers typed))
            ∙ rw (line_is, same_answers moment call (line ++ 10 ∷ []) happened) refl),
      )

-- ---- what is left of what was typed

pub left_none : (typed : TypedKept) (happened : List Happening)
    → TypedStands typed (bytes_come happened) (lines_answered (answers happened))
    → typed.unread ≡ [] → unanswered_lines (answers happened) happened ≡ []
left_none typed happened stands none =
    none_left typed (bytes_come happened) (lines_answered (answers happened)) stands none

module _ {X : Type 0} (line_in : X → List ℕ) where
  pub stays_typed : (old new : TypedKept) (next : Option X)
      → TakesLine old new (option_map line_in next) → is_some next ≡ false
      → (bytes : List ℕ) (taken : List (List ℕ)) → TypedStands old bytes taken
      → TypedStands new bytes taken
  stays_typed old new None takes none bytes taken stands = takes bytes taken stands
  stays_typed old new (Some x) takes none bytes taken stands = cc

  pub line_left : (old new : TypedKept) (next : Option X)
      → TakesLine old new (option_map line_in next) → is_some next ≡ true
      → (bytes : List ℕ) (taken : List (List ℕ)) → TypedStands old bytes taken
      → drop (length taken) (typed_of bytes).lines ≡ [] → ⊥
  line_left old new None takes some bytes taken stands left = cc
  line_left old new (Some x) takes some bytes taken stands left =
      let later = (takes bytes taken stands).0 in cc

pub if_none : {X Y : Type 0} (next : Option X) → IfNone next Y → is_some next ≡ false → Y
if_none None y none = y
if_none (Some x) y none = cc

pub equal : (same differs : Bool) → differs ≡ not same → differs ≡ false → same ≡ true
equal true differs is none = refl
equal false differs is none = cc

-- ---- a record

pub recalled_lines : (lines : List (List ℕ)) → AreRecalled lines
    → lines_given (answers (recall_of lines)) ≡ lines
recalled_lines [] are = refl
recalled_lines (line ∷ older) are =
    are.0.given ∙ ap (λ lines. line ∷ lines) (recalled_lines older are.1)
