-- A line that is carried out.
use Rattle.std.proofs.Common.{◌≡◌, ℕ, true, false, refl, ap, sym, ◌∙◌, List, [], ◌∷◌, ◌++◌}
use Rattle.std.proofs.Common.{Option, Some, None}
use Rattle.std.specs.Prelude.{is_some}
use Rattle.std.proofs.lemmas.List.{append_cancel_left}
use Rattle.playback_core.specs.Played.{Move, current_after}
use Rattle.desk_core.specs.declared.answer.Refused.{Refused}
use Rattle.desk_core.specs.Played.{Act, ticks_since_end}
use Rattle.desk_core.specs.Played.{moved_to, moves, own_time, refusal}
use Rattle.console.specs.declared.call.Call.{Call}
use Rattle.console.specs.declared.call.Call.TheVariants.{Order, Tick}
use Rattle.console.specs.declared.reading.Reading.TheVariants.{At}
use Rattle.console.specs.Spelling.{act_of, reading_of}
use Rattle.console.specs.Streams.{Production}
use Rattle.devices.specs.Send.{Send}
use Rattle.sacn_source.specs.declared.offered.Offered.{Offered}
use Rattle.cmd_play.specs.declared.performance.Answer.{Answer}
use Rattle.cmd_play.specs.Perform.{Performs, call_answer, lost_of, own_move}
use Rattle.cmd_play.specs.Run.{acts_after, acts_by}
use Rattle.cmd_play.proofs.Carrying.{answered_by}
use Rattle.cmd_play.proofs.Moved.{due_moves, own_is}
use Rattle.cmd_live.specs.Booth.{BoothState}
use Rattle.cmd_live.specs.Night.{trace_of}
use Rattle.cmd_live.specs.Shown.{cue_lines, moves_behind, shown_answer}
use Rattle.cmd_live.specs.Stands.{BoothCarriesOut, ShowsText, accepts_call}
use Rattle.cmd_live.proofs.Moves.{made_none}
use Rattle.cmd_live.proofs.Texts.{Keeps, shows_more}

-- ---- what was shown

-- a call that was accepted has no refusal
not_refused : (r : Option Refused) (call : Call) (ticks : Option ℕ) (offers : List (ℕ × Offered))
    (answer : Answer) → answer ≡ call_answer r call ticks offers → accepts_call answer ≡ true
    → r ≡ None
not_refused None call ticks offers answer is done = refl
not_refused (Some why) call ticks offers answer is done = cc

is_refused : (r : Option Refused) (call : Call) (ticks : Option ℕ) (offers : List (ℕ × Offered))
    (answer : Answer) → answer ≡ call_answer r call ticks offers → accepts_call answer ≡ false
    → is_some r ≡ true
is_refused (Some why) call ticks offers answer is done = refl
is_refused None (Order instruction) ticks offers answer is done = cc
is_refused None Tick ticks offers answer is done = cc

none_taken : (r : Option Refused) (act : Act) (history : List Act) → is_some r ≡ true
    → acts_by r act history ≡ history
none_taken (Some why) act history e = refl
none_taken None act history e = cc

module _ (p : Production) (history : List Act) (moment : ℕ) (call : Call) (answer : Answer)
    {before after : List Send} (did : Performs p history moment call before after answer) where
  abbrev pub acted : List Act
  acted = acts_after p.show (At moment call) history

  -- the moves that came by a call
  abbrev pub newer : List Move
  newer = moves_behind (moves p.show history) (moves p.show acted)

  pub none_newer : accepts_call answer ≡ false → cue_lines newer ≡ []
  none_newer done =
      let r = refusal p.show history (act_of moment call) in
      let same : acted ≡ history = none_taken r (act_of moment call) history
      (is_refused r call (ticks_since_end history) did.offers answer did.answer_is done) in
      rw (same, made_none (moves p.show history)) refl

  pub newer_is : (current : Option ℕ) → current ≡ current_after (moves p.show acted)
      → accepts_call answer ≡ true
      → newer ≡ moves_behind (moves p.show history) (moved_to (own_move call current) moment
      (own_time (act_of moment call).call) (due_moves p.show history moment))
  newer_is current is done =
      let r = refusal p.show history (act_of moment call) in
      let none : r ≡ None =
      not_refused r call (ticks_since_end history) did.offers answer did.answer_is done in
      rw (is, none) (ap (λ all. moves_behind (moves p.show history) all)
      (own_is p.show history moment call none))

  -- so it was carried out
  pub carried : (line : List ℕ) (s0 s1 s2 s3 : BoothState) (lost : ℕ)
      → reading_of line ≡ At moment call → Keeps before s0 s1 (line ++ 10 ∷ [])
      → ShowsText after s1 s2 (shown_answer moment answer) → ShowsText after s2 s3 (cue_lines newer)
      → lost ≡ lost_of answer
      → BoothCarriesOut p history line (trace_of s0 before) (trace_of s3 after) lost
  carried line s0 s1 s2 s3 lost reading keeps answers follows counted =
      let answered = answered_by p history moment call before after answer _ lost did refl
      counted in
      let all = shows_more after s1 s2 s3 _ _ answers follows in
      record {
        sends = did.sends;
        offers = did.offers;
        are_offered = rw reading did.are_offered;
        begun_is = ap (λ (s : BoothState). s.begun) all.rest
            ∙ ap (λ (s : BoothState). s.begun) keeps.rest;
        happened_is = ap (λ (s : BoothState). s.happened) all.rest
            ∙ ap (λ (s : BoothState). s.happened) keeps.rest;
        offered_is = did.after_is;
        kept = rw (ap (λ (s : BoothState). s.kept) all.rest) keeps.takes;
        shown = rw (reading, ← did.answer_is, ← ap (λ (s : BoothState). s.shown) keeps.rest)
            all.takes;
        answers = all.deeds;
        are_shown = all.are_shown;
        deeds_are = ap (λ (s : BoothState). s.deeds) all.rest
            ∙ ap (λ (s : BoothState). all.deeds ++ s.deeds) keeps.rest;
        told_is = ap (λ (s : BoothState). s.told) all.rest
            ∙ ap (λ (s : BoothState). s.told) keeps.rest;
        waited_is = ap (λ (s : BoothState). s.waited) all.rest
            ∙ ap (λ (s : BoothState). s.waited) keeps.rest;
        faults_are = ap (λ (s : BoothState). s.faults) all.rest
            ∙ ap (λ (s : BoothState). s.faults) keeps.rest;
        lost_is = rw (append_cancel_left before did.sends answered.sends
            (sym did.after_is ∙ answered.after_is)) answered.lost_is;
      }
