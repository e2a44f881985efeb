-- What a live night has played, and under which history.
use Rattle.cueplayer.proofs.Terms.{◌≡◌, ℕ, refl, ap, sym, ◌∙◌, List, [], ◌∷◌, Ok, Err, ◌++◌}
use Rattle.cueplayer.proofs.Terms.{append-nil, Option, Some, None, Result, inl, inr, codes}
use Rattle.cueplayer.proofs.Terms.{is_none, if◌then◌else◌, append_cancel_left}
use Rattle.cueplayer.proofs.Terms.{append_cancel_right, words_of, Call, Order, Tick, At, act_of}
use Rattle.cueplayer.proofs.Terms.{instruction_of, reading_of, BoothState, RunFault, LivedOn, Lives}
use Rattle.cueplayer.proofs.Terms.{Trace, answers_since, trace_of, history_joined, history_since}
use Rattle.cueplayer.proofs.Terms.{history_of, sends_of_run, acts_after, acts_by, Send, Refused}
use Rattle.cueplayer.proofs.Terms.{Instruction, Plain, End, Master, latest_frame, Act, order, refusal}
use Rattle.cueplayer.proofs.Terms.{Tables, without_keys, accepted_acts, Answer, Happening}
use Rattle.cueplayer.proofs.Terms.{answer_to, answers, behind_moment, lines_given, with_given}
use Rattle.cueplayer.proofs.Terms.{recall_of, spelled, recalled_lines, IsPlay, Play, play_history}
use Rattle.cueplayer.proofs.Terms.{IsNight, NightHeadline, NightsArePlays, NightsAreTyped}
use Rattle.cueplayer.proofs.Terms.{RestartHeadline, new_play, play_on}
use Rattle.std.specs.Prelude.{◌-◌, option_map}
use Rattle.cmd_faults.specs.declared.fault.RunFault.TheVariants as run
use Rattle.live_input.specs.Laws as live
use Rattle.live_input.specs.Night as answer
use Rattle.cueplayer.proofs.Restarting.{breaks_plays, plays_go_on}
use Rattle.cueplayer.proofs.Showing.{headline}

-- ---- a live night is a play

module _ (play : Play) (first : List Happening) (is_play : IsPlay play)
    (lines_are : play.lines ≡ lines_given (answers first)) where
  lives_plays : (happened : List Happening) (before after : Trace) (lost : ℕ)
      → Lives play.production first happened before after lost → IsNight play first before after
  lives_plays happened before after lost lives = record {
    happened = happened;
    happened_is = lives.happened_is;
    offered = sends_of_run lives.run;
    after_is = lives.offered_is;
    is_play = rw (← lives.lines_are) (plays_go_on play lives.run is_play
        (rw lines_are lives.is_run));
  }

  lived_plays : (result : Result (Unit {0}) RunFault) (before after : Trace)
      → LivedOn play.production first result before after → IsNight play first before after
  lived_plays (Ok done) before after is = lives_plays is.happened before after 0 is.lives
  lived_plays (Err (run.Lost n)) before after is =
      lives_plays is.1.happened before after n is.1.lives
  lived_plays (Err run.Device) before after is =
      let night = lives_plays is.0 before (trace_of is.2 after.offered) is.1 is.3 in
      record {
        happened = night.happened;
        happened_is = elim is.4 [
          | inl broke ↦ ap (λ (b : BoothState). b.happened) broke ∙ night.happened_is
          | inr worn ↦ ap (λ (b : BoothState). b.happened) worn.0 ∙ night.happened_is
        ];
        offered = night.offered;
        after_is = night.after_is;
        is_play = night.is_play;
      }
  lived_plays (Err _) before after is = absurd is

pub nights_plays : NightsArePlays
nights_plays play first passed result before after is_play lines_are is =
    let night = lived_plays play first is_play lines_are result _ after is in
    record {
      happened = night.happened;
      happened_is = night.happened_is;
      offered = night.offered;
      after_is = night.after_is;
      is_play = night.is_play;
    }

-- ---- what was typed

same_taken : (o : Option Refused) (act : Act) (history : List Act)
    → acts_by o act history ≡ (if is_none o then act ∷ history else history)
same_taken None act history = refl
same_taken (Some refused) act history = refl

module _ (show : Tables) (history : List Act) where
  -- a line that spells a call
  spells : (moment : ℕ) (call : Call) (line : List ℕ) → reading_of line ≡ At moment call
      → acts_after show (reading_of line) history
      ≡ live.acts_with show (Some (act_of moment call)) history
  spells moment call line e = ap (λ reading. acts_after show reading history) e
      ∙ same_taken (refusal show history (act_of moment call)) (act_of moment call) history

  instructions : (o : Option Instruction) (moment : ℕ) (line : List ℕ)
      → live.SpellsInstruction o moment line
      → acts_after show (reading_of (behind_moment moment line)) history
      ≡ live.acts_with show (option_map (λ c. record { moment = moment; call = order c }) o) history
  instructions None moment line s = absurd s
  instructions (Some instruction) moment line s =
      spells moment (Order instruction) (behind_moment moment line) s

  one : (answer : Answer) (lines : List (List ℕ)) → history_of show lines ≡ history
      → live.IsSpelled answer
      → history_of show (with_given answer lines) ≡ live.acts_with show (live.act_in answer) history
  one (answer.order moment line) lines e s =
      ap (acts_after show (reading_of (behind_moment moment (without_keys line)))) e
      ∙ instructions (instruction_of (words_of (without_keys line))) moment (without_keys line) s
  one (answer.dim moment typed) lines e s =
      ap (acts_after show (reading_of (behind_moment moment (codes "master 0")))) e
      ∙ spells moment (Order (Plain (Master 0))) (behind_moment moment (codes "master 0")) s
  one (answer.close moment typed) lines e s =
      ap (acts_after show (reading_of (behind_moment moment (codes "end")))) e
      ∙ spells moment (Order (Plain End)) (behind_moment moment (codes "end")) s
  one (answer.tick moment) lines e s =
      ap (acts_after show (reading_of (behind_moment moment (codes "tick")))) e
      ∙ spells moment Tick (behind_moment moment (codes "tick")) s
  one _ lines e s = e

pub nights_typed : NightsAreTyped
nights_typed show [] = refl
nights_typed show (answer.asked moment ∷ older) =
    one show (accepted_acts show (answers older)) (answer_to older moment)
    (lines_given (answers older))
    (nights_typed show older) (spelled older moment)
nights_typed show (_ ∷ older) = nights_typed show older

-- the history of a night behind a play
pub history_is : (play : Play) (first happened : List Happening) (offered : List Send)
    → play.lines ≡ lines_given (answers first)
    → play_history (play_on play (lines_given (answers_since first happened)) offered)
    ≡ history_of play.production.show (lines_given (answers (happened ++ first)))
history_is play first happened offered lines_are =
    ap (λ lines. history_of play.production.show (lines_given (answers_since first happened)
    ++ lines)) lines_are
    ∙ history_joined play.production.show (lines_given (answers_since first happened))
    (lines_given (answers first))
    ∙ sym (history_since play.production.show first happened)

pub night_headline : NightHeadline
night_headline play first passed result before after is_play lines_are is happened offered
    happened_is offered_is u t traffic hears fresh =
    let night = nights_plays play first passed result before after is_play lines_are is in
    let same : night.happened ≡ happened = append_cancel_right night.happened happened
    before.booth.happened (sym night.happened_is ∙ happened_is) in
    let sends : night.offered ≡ offered = append_cancel_left before.offered
    night.offered offered (sym night.after_is ∙ offered_is) in
    let all : Play = play_on play (lines_given (answers_since first happened)) offered in
    let plays : IsPlay all = rw (← same, ← sends) night.is_play in
    headline all u t traffic plays hears fresh
    ∙ ap (λ history. latest_frame play.production.show history (u - play.production.base))
    (history_is play first happened offered lines_are
    ∙ nights_typed play.production.show (happened ++ first))

-- ---- across a restart

pub restart_headline : RestartHeadline
restart_headline p newest older offered later passed result before after happened is broke recalled
    lived happened_is offered_is =
    let none : IsPlay (new_play p) =
    record { run = []; lines_are = refl; is_run = tt; offered_are = refl } in
    let all = breaks_plays (new_play p) newest older offered is none broke in
    let record_lines = newest ∷ older in
    let broken = play_on (new_play p) record_lines (offered ++ all.0) in
    let lines_are : broken.lines ≡ lines_given (answers (recall_of record_lines)) =
    append-nil record_lines ∙ sym (recalled_lines record_lines recalled) in (
      all.0,
      all.1,
      λ u t traffic hears fresh.
          night_headline broken (recall_of record_lines) passed result before after all.2 lines_are
          lived happened later happened_is offered_is u t traffic hears fresh
          ∙ ap (λ history. latest_frame p.show history (u - p.base))
          (sym (nights_typed p.show (happened ++ recall_of record_lines))
          ∙ sym (history_is broken (recall_of record_lines) happened later lines_are)
          ∙ ap (λ lines. history_of p.show (lines_given (answers_since (recall_of record_lines)
          happened) ++ lines)) (append-nil record_lines)),
    )
