-- A night that goes on, answer by answer.
use Rattle.std.proofs.Common.{◌≡◌, ℕ, Bool, true, false, refl, ap, sym, ◌∙◌, List, [], ◌∷◌}
use Rattle.std.proofs.Common.{◌++◌, append_assoc, append-nil, arith, ◌+◌, ◌≤◌, length}
use Rattle.std.proofs.Common.{length-append, Err, Ok, Result}
use Rattle.std.specs.Prelude.{OnErr, if◌then◌else◌, cond, flat_map, min, reverse}
use Rattle.std.proofs.lemmas.Grind.{flat_map-append}
use Rattle.std.proofs.lemmas.List.{reverse-append}
use Rattle.std.proofs.lemmas.List.Sums.{sum_by-append}
use Rattle.devices.specs.Send.{Send, failures_of}
use Rattle.fade_core.specs.Level.{Start}
use Rattle.show_core.specs.Tables.{Tables}
use Rattle.desk_core.specs.Played.{Act}
use Rattle.console.specs.Offering.{AreOffered}
use Rattle.console.specs.Streams.{Production}
use Rattle.console.specs.Spelling.{reading_of}
use Rattle.cmd_play.specs.Run.{CarriedLine, dues_after, history_from, history_of, lines_of_run}
use Rattle.cmd_play.specs.Run.{sends_of_run, acts_after}
use Rattle.live_input.specs.declared.given.GivenLine.{GivenLine}
use Rattle.live_input.specs.declared.given.Given.TheVariants.{Help, Line, Over, Refused, Until}
use Rattle.live_input.specs.declared.given.Given.TheVariants.{Where}
use Rattle.live_input.specs.declared.reason.Reason.{Reason}
use Rattle.live_input.specs.Laws.{NothingIsAsked, lines_text}
use Rattle.live_input.specs.Keys.{without_keys}
use Rattle.live_input.specs.Night.{Answer, Happening, answer_to, answers, asked, behind_moment}
use Rattle.live_input.specs.Night.{came}
use Rattle.live_input.specs.Night.{close, closed, dim, help, ignored_keys, is_over, lines_given}
use Rattle.live_input.specs.Night.{now, order, over, place, refusal, refused_front, tick, wait}
use Rattle.live_input.specs.Night.{with_given}
use Rattle.live_input.specs.Stands as live
use Rattle.live_input.specs.Told.{IsGiven, Tells}
use Rattle.cmd_live.specs.declared.night.Night.{Night}
use Rattle.cmd_live.specs.Booth.{BoothState, Deed, BoothNote, begins, with_fault, happens, is_told}
use Rattle.cmd_live.specs.Booth.{keys}
use Rattle.cmd_live.specs.Booth.{kept_at, refused, shown_at}
use Rattle.cmd_live.specs.Booth.{waits_until}
use Rattle.cmd_live.specs.Night.{InOrder, IsLived, Lives, Trace, answers_since, begins_at}
use Rattle.cmd_live.specs.Night.{history_at, trace_of}
use Rattle.cmd_live.specs.Night.{shown_in, told_in, notes_of}
use Rattle.cmd_live.specs.Night.{waited_in, waits_of}
use Rattle.cmd_live.specs.Shown.{TakesText, help_text, shown_of, shown_place}
use Rattle.cmd_live.specs.Stands.{AreShown, BreaksOff, BoothCarriesOut, GoesOn, ShowsText}
use Rattle.cmd_live.specs.Stands.{StandsFor}
use Rattle.cmd_live.specs.Stands.{Waits, told_keys}
use Rattle.cmd_live.proofs.Texts.{takes_more, takes_none}

-- ---- answers that give a line

-- what is shown at an answer that gives a line
abbrev pub ShowsLine : Answer → Type 0
ShowsLine answer = (p : Production) (start : List Act) (older : List Answer) (newest : CarriedLine)
    (run : List CarriedLine) → shown_in p start (answer ∷ older) (newest ∷ run)
    ≡ shown_in p start older run
    ++ shown_of p (history_from p.show start (lines_of_run run)) (reading_of newest.line)
    newest.offers

-- and what is told at it
abbrev pub TellsKeys : Answer → Type 0
TellsKeys answer = (older : List Answer)
    → notes_of answer ≡ (if ignored_keys (answer ∷ older) then keys ∷ [] else [])

pub record Gives (answer : Answer) (given : GivenLine) : Type 0 where
  pub line : List ℕ
  pub is_given : IsGiven given line
  pub lines_are : (older : List (List ℕ)) → with_given answer older ≡ line ∷ older
  pub shown_is : ShowsLine answer
  pub told_is : TellsKeys answer
  pub waits_none : waits_of answer ≡ []

by_line : (answer : Answer) (given : GivenLine) (line : List ℕ) → IsGiven given line
    → ((older : List (List ℕ)) → with_given answer older ≡ line ∷ older) → ShowsLine answer
    → TellsKeys answer → waits_of answer ≡ [] → Gives answer given
by_line answer given line is lines shown told none = record {
  line = line;
  is_given = is;
  lines_are = lines;
  shown_is = shown;
  told_is = told;
  waits_none = none;
}

pub gives : (given : GivenLine) (answer : Answer) → Tells (Line given) answer → Gives answer given
gives given (order moment line) t = by_line (order moment line) given
    (behind_moment moment (without_keys line)) t (λ _. refl) (λ _ _ _ _ _. refl) (λ _. refl) refl
gives given (dim moment typed) t = by_line (dim moment typed) given (behind_moment moment _) t
    (λ _. refl) (λ _ _ _ _ _. refl) (λ _. refl) refl
gives given (close moment typed) t = by_line (close moment typed) given (behind_moment moment _) t
    (λ _. refl) (λ _ _ _ _ _. refl) (λ _. refl) refl
gives given (tick moment) t = by_line (tick moment) given (behind_moment moment _) t
    (λ _. refl) (λ _ _ _ _ _. refl) (λ _. refl) refl
gives given _ t = absurd t

-- ---- answers that give none

-- what such an answer says: what is shown at it after a history, and what is told, where keys were
-- left out of its line or not
pub record Says (answer : Answer) (text : Tables → List Act → List ℕ) (told : Bool → List BoothNote)
    (waited : List ℕ) : Type 0 where
  pub no_line : (older : List (List ℕ)) → with_given answer older ≡ older
  pub shown_is : (p : Production) (start : List Act) (older : List Answer) (run : List CarriedLine)
      → shown_in p start (answer ∷ older) run
      ≡ shown_in p start older run ++ text p.show (history_from p.show start (lines_of_run run))
  pub told_is : (older : List Answer) → notes_of answer ≡ told (ignored_keys (answer ∷ older))
  pub waits_are : waits_of answer ≡ waited

abbrev pub told_if : Bool → List BoothNote
told_if ignored = if ignored then keys ∷ [] else []

pub places : (when : ℕ) (answer : Answer) → Tells (Where when) answer
    → Says answer (λ show history. shown_place show history when) told_if []
places when (place moment line) t = record {
  no_line = λ _. refl;
  shown_is = λ p start older run. ap (λ m. shown_in p start older run
      ++ shown_place p.show (history_from p.show start (lines_of_run run)) m) (sym t);
  told_is = λ _. refl;
  waits_are = refl;
}
places when _ t = absurd t

pub helps : (answer : Answer) → Tells Help answer → Says answer (λ _ _. help_text) told_if []
helps (help line) t = record {
  no_line = λ _. refl;
  shown_is = λ _ _ _ _. refl;
  told_is = λ _. refl;
  waits_are = refl;
}
helps _ t = absurd t

pub refuses : (text : _) (reason : Reason) (answer : Answer) → Tells (Refused text reason) answer
    → Says answer (λ _ _. []) (λ _. refused text.items reason ∷ []) []
refuses text reason (refusal why line) t = record {
  no_line = λ _. refl;
  shown_is = λ p start older run. sym (append-nil (shown_in p start older run));
  told_is = λ _. ap (λ w. refused (refused_front line) w ∷ []) (sym t.1)
      ∙ ap (λ bytes. refused bytes reason ∷ []) (sym t.0);
  waits_are = refl;
}
refuses text reason _ t = absurd t

pub waits : (until : ℕ) (answer : Answer) → Tells (Until until) answer
    → Says answer (λ _ _. []) (λ _. []) (until ∷ [])
waits until (wait due) t = record {
  no_line = λ _. refl;
  shown_is = λ p start older run. sym (append-nil (shown_in p start older run));
  told_is = λ _. refl;
  waits_are = ap (λ n. n ∷ []) (sym t);
}
waits until _ t = absurd t

pub overs : (answer : Answer) → Tells Over answer
    → (answer ≡ over) × Says answer (λ _ _. []) (λ _. []) []
overs over t = (
  refl,
  record {
    no_line = λ _. refl;
    shown_is = λ p start older run. sym (append-nil (shown_in p start older run));
    told_is = λ _. refl;
    waits_are = refl;
  },
)
overs _ t = absurd t

-- ---- one step

-- what was done since a moment was asked: what was told, offered, recorded and shown, in this order
pub record Steps (moment : ℕ) (told : List BoothNote) (waited : List ℕ) (sends : List Send)
    (line text : List ℕ) (keeping : List Deed) (before after : Trace) : Type 0 where
  pub begun_is : after.booth.begun ≡ before.booth.begun
  pub happened_is : after.booth.happened ≡ asked moment ∷ before.booth.happened
  pub offered_is : after.offered ≡ before.offered ++ sends
  pub kept : TakesText before.booth.kept after.booth.kept line
  pub shown : TakesText before.booth.shown after.booth.shown text
  pub showing : List Deed
  pub are_shown : AreShown after.offered showing
  pub deeds_are : after.booth.deeds ≡ showing ++ (keeping ++ before.booth.deeds)
  pub told_is : after.booth.told ≡ told ++ before.booth.told
  pub waited_is : after.booth.waited ≡ waited ++ before.booth.waited
  pub faults_are : after.booth.faults ≡ before.booth.faults

-- something is told behind it
pub then_tells : (moment : ℕ) (told : BoothNote) (before middle after : BoothState)
    {offered offers sends : List Send} {line text : List ℕ} {keeping : List Deed}
    → Steps moment [] [] sends line text keeping (trace_of before offered) (trace_of middle offers)
    → after ≡ is_told told middle
    → Steps moment (told ∷ []) [] sends line text keeping (trace_of before offered)
    (trace_of after offers)
then_tells moment told before middle after did is = rw is (record {
  begun_is = did.begun_is;
  happened_is = did.happened_is;
  offered_is = did.offered_is;
  kept = did.kept;
  shown = did.shown;
  showing = did.showing;
  are_shown = did.are_shown;
  deeds_are = did.deeds_are;
  told_is = ap (λ others. told ∷ others) did.told_is;
  waited_is = did.waited_is;
  faults_are = did.faults_are;
})

-- it is waited behind it
pub then_waits : (moment due : ℕ) (before middle : BoothState) (offered offers : List Send)
    → Steps moment [] [] [] [] [] [] (trace_of before offered) (trace_of middle offers)
    → Steps moment [] (due ∷ []) [] [] [] [] (trace_of before offered)
    (trace_of (waits_until due middle) offers)
then_waits moment due before middle offered offers did = record {
  begun_is = did.begun_is;
  happened_is = did.happened_is;
  offered_is = did.offered_is;
  kept = did.kept;
  shown = did.shown;
  showing = did.showing;
  are_shown = did.are_shown;
  deeds_are = did.deeds_are;
  told_is = did.told_is;
  waited_is = ap (λ others. due ∷ others) did.waited_is;
  faults_are = did.faults_are;
}

-- and keys are told, where they were left out
pub with_keys : (moment : ℕ) (ignored : Bool) (before middle after : BoothState)
    {offered offers sends : List Send} {line text : List ℕ} {keeping : List Deed}
    → Steps moment [] [] sends line text keeping (trace_of before offered) (trace_of middle offers)
    → after ≡ told_keys ignored middle
    → Steps moment (told_if ignored) [] sends line text keeping (trace_of before offered)
    (trace_of after offers)
with_keys moment true before middle after did is = then_tells moment keys before middle after did is
with_keys moment false before middle after did is = rw is did

-- a text was shown, since a moment was asked
pub shows_since : (moment : ℕ) (before asks after : BoothState) (offered : List Send)
    {text : List ℕ} → asks ≡ happens (asked moment) before → ShowsText offered asks after text
    → Steps moment [] [] [] [] text [] (trace_of before offered) (trace_of after offered)
shows_since moment before asks after offered is shows =
    let shown_in : BoothState → BoothState =
    λ b. record b { shown = after.shown; deeds = shows.deeds ++ b.deeds } in
    let rest : after ≡ shown_in (happens (asked moment) before) = shows.rest ∙ ap shown_in is in
    record {
      begun_is = ap (λ (b : BoothState). b.begun) rest;
      happened_is = ap (λ (b : BoothState). b.happened) rest;
      offered_is = sym (append-nil offered);
      kept = rw (ap (λ (b : BoothState). b.kept) rest) (takes_none before.kept);
      shown = rw is at shows.takes;
      showing = shows.deeds;
      are_shown = shows.are_shown;
      deeds_are = ap (λ (b : BoothState). b.deeds) rest;
      told_is = ap (λ (b : BoothState). b.told) rest;
      waited_is = ap (λ (b : BoothState). b.waited) rest;
      faults_are = ap (λ (b : BoothState). b.faults) rest;
    }

-- a line was carried out, since a moment was asked
pub carried_since : (p : Production) (history : List Act) (moment : ℕ)
    (before asks after : BoothState)
    (offered offers : List Send) {line : List ℕ} {lost : ℕ} → asks ≡ happens (asked moment) before
    → (did : BoothCarriesOut p history line (trace_of asks offered) (trace_of after offers) lost)
    → Steps moment [] [] did.sends (line ++ 10 ∷ [])
    (shown_of p history (reading_of line) did.offers) (kept_at offered ∷ [])
    (trace_of before offered) (trace_of after offers)
carried_since p history moment before asks after offered offers is did = record {
  begun_is = did.begun_is ∙ ap (λ (b : BoothState). b.begun) is;
  happened_is = did.happened_is ∙ ap (λ (b : BoothState). b.happened) is;
  offered_is = did.offered_is;
  kept = rw is at did.kept;
  shown = rw is at did.shown;
  showing = did.answers;
  are_shown = did.are_shown;
  deeds_are = did.deeds_are ∙ ap (λ (b : BoothState). did.answers ++ kept_at offered ∷ b.deeds) is;
  told_is = did.told_is ∙ ap (λ (b : BoothState). b.told) is;
  waited_is = did.waited_is ∙ ap (λ (b : BoothState). b.waited) is;
  faults_are = did.faults_are ∙ ap (λ (b : BoothState). b.faults) is;
}

one_text : (line : List ℕ) (older : List (List ℕ))
    → lines_text (line ∷ older) ≡ lines_text older ++ (line ++ 10 ∷ [])
one_text line older =
    ap (flat_map (λ (l : List ℕ). l ++ 10 ∷ [])) (reverse-append (line ∷ []) older)
    ∙ flat_map-append (λ (l : List ℕ). l ++ 10 ∷ []) (reverse older) (line ∷ [])
    ∙ ap (λ text. lines_text older ++ text) (append-nil (line ++ 10 ∷ []))

more_failures : (older newer : List Send)
    → failures_of (older ++ newer) ≡ failures_of older + failures_of newer
more_failures = sum_by-append (λ (send : Send). cond send.failed 1 0)

-- ---- in which order

then_shown : (first : List Send) (run : List CarriedLine) (newer older : List Deed)
    → AreShown (first ++ sends_of_run run) newer → InOrder first run older
    → InOrder first run (newer ++ older)
then_shown first run [] older new old = old
then_shown first run (shown_at at ∷ newer) older new old =
    (new.0, then_shown first run newer older new.1 old)
then_shown first run (kept_at at ∷ newer) older new old = absurd new

-- ---- what was answered since

pub joined : (first happened : List Happening)
    → answers (happened ++ first) ≡ answers_since first happened ++ answers first
joined first [] = refl
joined first (asked moment ∷ happened) =
    ap (λ given. answer_to (happened ++ first) moment ∷ given) (joined first happened)
joined first (came bytes ∷ happened) = joined first happened
joined first (closed ends ∷ happened) = joined first happened

with_more_lines : (answer : Answer) (given older : List (List ℕ))
    → with_given answer (given ++ older) ≡ with_given answer given ++ older
with_more_lines (order moment line) given older = refl
with_more_lines (dim moment typed) given older = refl
with_more_lines (close moment typed) given older = refl
with_more_lines (tick moment) given older = refl
with_more_lines (place moment line) given older = refl
with_more_lines (help line) given older = refl
with_more_lines (refusal why line) given older = refl
with_more_lines (wait due) given older = refl
with_more_lines over given older = refl

lines_joined : (given older : List Answer)
    → lines_given (given ++ older) ≡ lines_given given ++ lines_given older
lines_joined [] older = refl
lines_joined (answer ∷ given) older = ap (with_given answer) (lines_joined given older)
    ∙ with_more_lines answer (lines_given given) (lines_given older)

pub history_joined : (show : Tables) (lines older : List (List ℕ))
    → history_of show (lines ++ older) ≡ history_from show (history_of show older) lines
history_joined show [] older = refl
history_joined show (line ∷ lines) older =
    ap (acts_after show (reading_of line)) (history_joined show lines older)

-- the history behind the lines since a night began
pub history_since : (show : Tables) (first happened : List Happening)
    → history_of show (lines_given (answers (happened ++ first)))
    ≡ history_from show (history_at show first) (lines_given (answers_since first happened))
history_since show first happened =
    ap (λ given. history_of show (lines_given given)) (joined first happened)
    ∙ ap (history_of show) (lines_joined (answers_since first happened) (answers first))
    ∙ history_joined show (lines_given (answers_since first happened)) (lines_given (answers first))

module _ (p : Production) (first happened : List Happening) (moment : ℕ)
    (start before after : Trace) {lost : ℕ} (lives : Lives p first happened start before lost) where
  abbrev given : List Answer
  given = answers_since first happened

  abbrev answer : Answer
  answer = answer_to (happened ++ first) moment

  history_is : history_of p.show (lines_given (answers (happened ++ first)))
      ≡ history_from p.show (history_at p.show first) (lines_of_run lives.run)
  history_is = history_since p.show first happened
      ∙ ap (history_from p.show (history_at p.show first)) (sym lives.lines_are)

  -- an answer that gives no line
  pub lives_on : {text : Tables → List Act → List ℕ} {told : Bool → List BoothNote}
      {waited : List ℕ}
      → Says answer text told waited
      → Steps moment (notes_of answer) waited [] []
      (text p.show (history_of p.show (lines_given (answers (happened ++ first))))) [] before after
      → Lives p first (asked moment ∷ happened) start after lost
  lives_on {text = text} {told = told} {waited = waited} says did = record {
    run = lives.run;
    lines_are = lives.lines_are ∙ sym (says.no_line (lines_given given));
    is_run = lives.is_run;
    begun_is = did.begun_is ∙ lives.begun_is;
    happened_is = did.happened_is ∙ ap (λ hs. asked moment ∷ hs) lives.happened_is;
    offered_is = did.offered_is ∙ append-nil before.offered ∙ lives.offered_is;
    kept = rw (← append-nil (lines_text (lines_of_run lives.run)))
        (takes_more _ _ _ _ _ lives.kept did.kept);
    shown = rw (says.shown_is p (history_at p.show first) given lives.run)
        (takes_more _ _ _ _ _ lives.shown (rw history_is at did.shown));
    deeds = did.showing ++ lives.deeds;
    deeds_are = did.deeds_are ∙ ap (λ (ds : List Deed). did.showing ++ ds) lives.deeds_are
        ∙ sym (append_assoc did.showing lives.deeds start.booth.deeds);
    in_order = then_shown start.offered lives.run did.showing lives.deeds
        (rw (did.offered_is ∙ append-nil before.offered ∙ lives.offered_is) at did.are_shown)
        lives.in_order;
    told_is = did.told_is ∙ ap (λ told. notes_of answer ++ told) lives.told_is
        ∙ sym (append_assoc (notes_of answer) (told_in given) start.booth.told);
    waited_is = rw says.waits_are (did.waited_is ∙ ap (λ others. waited ++ others) lives.waited_is
        ∙ sym (append_assoc waited (waited_in given) start.booth.waited));
    faults_are = did.faults_are ∙ lives.faults_are;
    lost_is = lives.lost_is;
  }

  -- an answer that gives one
  pub lives_more : (given_line : GivenLine) (giving : Gives answer given_line)
      (count after_lost : ℕ)
      (offers : List _) (sends : List Send)
      → AreOffered p.source
      (dues_after p (history_of p.show (lines_given (answers (happened ++ first))))
      (reading_of giving.line)) sends offers
      → Steps moment (notes_of answer) [] sends (giving.line ++ 10 ∷ [])
      (shown_of p (history_of p.show (lines_given (answers (happened ++ first))))
      (reading_of giving.line) offers)
      (kept_at before.offered ∷ []) before after
      → count ≡ failures_of sends → after_lost ≡ min (lost + count) 18446744073709551615
      → Lives p first (asked moment ∷ happened) start after after_lost
  lives_more given_line giving count after_lost offers sends are_offered did counted sum =
      let newest : CarriedLine = record { line = giving.line; sends = sends; offers = offers } in
      let offered : after.offered ≡ start.offered ++ sends_of_run (newest ∷ lives.run) =
      did.offered_is ∙ ap (λ sent. sent ++ sends) lives.offered_is
      ∙ append_assoc start.offered (sends_of_run lives.run) sends in
      let deeds : List Deed = kept_at before.offered ∷ lives.deeds in
      record {
        run = newest ∷ lives.run;
        lines_are = ap (λ lines. giving.line ∷ lines) lives.lines_are
            ∙ sym (giving.lines_are (lines_given given));
        is_run = (rw history_is at are_offered, lives.is_run);
        begun_is = did.begun_is ∙ lives.begun_is;
        happened_is = did.happened_is ∙ ap (λ hs. asked moment ∷ hs) lives.happened_is;
        offered_is = offered;
        kept = rw (one_text giving.line (lines_of_run lives.run))
            (takes_more _ _ _ _ _ lives.kept did.kept);
        shown = rw (giving.shown_is p (history_at p.show first) given newest lives.run)
            (takes_more _ _ _ _ _ lives.shown (rw history_is at did.shown));
        deeds = did.showing ++ deeds;
        deeds_are = did.deeds_are
            ∙ ap (λ (ds : List Deed). did.showing ++ kept_at before.offered ∷ ds) lives.deeds_are
            ∙ sym (append_assoc did.showing deeds start.booth.deeds);
        in_order = then_shown start.offered (newest ∷ lives.run) did.showing deeds
            (rw offered at did.are_shown) (lives.offered_is, lives.in_order);
        told_is = did.told_is ∙ ap (λ told. notes_of answer ++ told) lives.told_is
            ∙ sym (append_assoc (notes_of answer) (told_in given) start.booth.told);
        waited_is = rw giving.waits_none (did.waited_is ∙ lives.waited_is);
        faults_are = did.faults_are ∙ lives.faults_are;
        lost_is = let l = lives.lost_is in let m = more_failures (sends_of_run lives.run) sends in
            omega (arith, sum, counted, l, m);
      }

-- ---- what happens without an answer

same_answers : (since happened : List Happening) → NothingIsAsked since
    → answers (since ++ happened) ≡ answers happened
same_answers [] happened none = refl
same_answers (came bytes ∷ since) happened none = same_answers since happened none
same_answers (closed ends ∷ since) happened none = same_answers since happened none
same_answers (asked moment ∷ since) happened none = absurd none

same_since : (first since happened : List Happening) → NothingIsAsked since
    → answers_since first (since ++ happened) ≡ answers_since first happened
same_since first [] happened none = refl
same_since first (came bytes ∷ since) happened none = same_since first since happened none
same_since first (closed ends ∷ since) happened none = same_since first since happened none
same_since first (asked moment ∷ since) happened none = absurd none

pub lives_waiting : (p : Production) (first since happened : List Happening)
    (start before after : Trace) {lost : ℕ} → NothingIsAsked since
    → Lives p first happened start before lost
    → after.booth ≡ record before.booth { happened = since ++ before.booth.happened }
    → after.offered ≡ before.offered → Lives p first (since ++ happened) start after lost
lives_waiting p first since happened start before after none lives booth_is offered_is =
    let same = same_since first since happened none in
    record {
      run = lives.run;
      lines_are = rw same lives.lines_are;
      is_run = lives.is_run;
      begun_is = ap (λ (b : BoothState). b.begun) booth_is ∙ lives.begun_is;
      happened_is = ap (λ (b : BoothState). b.happened) booth_is
          ∙ ap (λ hs. since ++ hs) lives.happened_is
          ∙ sym (append_assoc since happened start.booth.happened);
      offered_is = offered_is ∙ lives.offered_is;
      kept = rw (ap (λ (b : BoothState). b.kept) booth_is) lives.kept;
      shown = rw (same, ap (λ (b : BoothState). b.shown) booth_is) lives.shown;
      deeds = lives.deeds;
      deeds_are = ap (λ (b : BoothState). b.deeds) booth_is ∙ lives.deeds_are;
      in_order = lives.in_order;
      told_is = rw same (ap (λ (b : BoothState). b.told) booth_is ∙ lives.told_is);
      waited_is = rw same (ap (λ (b : BoothState). b.waited) booth_is ∙ lives.waited_is);
      faults_are = ap (λ (b : BoothState). b.faults) booth_is ∙ lives.faults_are;
      lost_is = lives.lost_is;
    }

-- ---- nights that go on

pub on_err : {A E X : Type 0} (r : Result A E) → X → OnErr r X
on_err (Ok a) x = tt
on_err (Err e) x = x

module _ {F : Type 0} (fader_stands_for : F → List Start → Type 0) where
  -- what was done twice was done
  pub goes_more : (first next : Type 0) (old mid new : Night F) (before middle after : Trace)
      (one : GoesOn fader_stands_for first old mid before middle)
      (two : GoesOn fader_stands_for next mid new middle after) → (next → first)
      → (goes : GoesOn fader_stands_for next old new before after)
      × (length goes.since ≡ length two.since + length one.since)
  goes_more first next old mid new before middle after one two tell = (
    record {
      since = two.since ++ one.since;
      stands = λ p happened stands. rw (append_assoc two.since one.since happened)
          (two.stands p _ (one.stands p happened stands));
      lived = λ tells p first happened start stands lives.
          rw (append_assoc two.since one.since happened)
          (two.lived tells p first _ start
          (rw (append_assoc one.since happened first) (one.stands p (happened ++ first) stands))
          (one.lived (tell tells) p first happened start stands lives));
    },
    length-append two.since one.since,
  )

  pub breaks_more : (first next : Type 0) (old mid new : Night F) (before middle after : Trace)
      → GoesOn fader_stands_for first old mid before middle
      → BreaksOff fader_stands_for next mid new middle after → (next → first)
      → BreaksOff fader_stands_for next old new before after
  breaks_more first next old mid new before middle after one two tell = record {
    middle = two.middle;
    goes = (goes_more first next old mid new before middle _ one two.goes tell).0;
    fails_at = two.fails_at;
  }

  pub goes_none : (tells : Type 0) (night : Night F) (before after : Trace)
      → (tells → after ≡ before) → GoesOn fader_stands_for tells night night before after
  goes_none tells night before after same = record {
    since = [];
    stands = λ p happened stands. stands;
    lived = λ told p first happened start stands lives. rw (same told) lives;
  }

  pub breaks_none : (tells : Type 0) (night : Night F) (before after : BoothState)
      (offered : List Send) → (tells → after ≡ with_fault before)
      → BreaksOff fader_stands_for tells night night (trace_of before offered)
      (trace_of after offered)
  breaks_none tells night before after offered failed = record {
    middle = before;
    goes = goes_none tells night _ _ (λ told. refl);
    fails_at = failed;
  }

  -- an answer that gives no line
  pub goes_quietly : (tells : Type 0) (old new : Night F) (moment : ℕ) (before after : Trace)
      {text : Tables → List Act → List ℕ} {told : Bool → List BoothNote} {waited : List ℕ}
      → new.console ≡ old.console → new.lost ≡ old.lost
      → ((happened : List Happening) → live.StandsFor old.input happened
      → live.StandsFor new.input (asked moment ∷ happened))
      → ((happened : List Happening) → live.StandsFor old.input happened
      → Says (answer_to happened moment) text told waited)
      → (tells → (p : Production) (happened : List Happening)
      → StandsFor fader_stands_for p old happened
      → Steps moment (told (ignored_keys (answers (asked moment ∷ happened)))) waited [] []
      (text p.show (history_of p.show (lines_given (answers happened)))) [] before after)
      → (goes : GoesOn fader_stands_for tells old new before after) × (1 ≤ length goes.since)
  goes_quietly tells old new moment before after console_is lost_is input says did = (
    record {
      since = asked moment ∷ [];
      stands = λ p happened stands.
          let said = says happened stands.input_stands in
          record {
            console_stands = rw (console_is, said.no_line (lines_given (answers happened)))
                stands.console_stands;
            input_stands = input happened stands.input_stands;
          };
      lived = λ told p first happened start stands lives.
          let said = says (happened ++ first) stands.input_stands in
          rw lost_is (lives_on p first happened moment start before after lives said
          (rw (said.told_is (answers (happened ++ first)))
          (did told p (happened ++ first) stands)));
    },
    omega arith,
  )

  -- nothing was asked
  pub goes_waiting : (tells told : Type 0) (old new : Night F) (before after : Trace)
      → new.console ≡ old.console → new.lost ≡ old.lost
      → Waits told old.input new.input before.booth after.booth → (tells → told)
      → after.offered ≡ before.offered → GoesOn fader_stands_for tells old new before after
  goes_waiting tells told old new before after console_is lost_is waits tell offered_is = record {
    since = waits.since;
    stands = λ p happened stands. record {
      console_stands = rw (console_is, same_answers waits.since happened waits.none_asked)
          stands.console_stands;
      input_stands = waits.stands happened stands.input_stands;
    };
    lived = λ tells p first happened start stands lives. rw lost_is
        (lives_waiting p first waits.since happened start before after waits.none_asked lives
        (waits.did (tell tells)) offered_is);
  }

-- ---- whole nights

lives_none : (p : Production) (first : List Happening) (before : Trace)
    → Lives p first [] before before 0
lives_none p first before = record {
  run = [];
  lines_are = refl;
  is_run = tt;
  begun_is = refl;
  happened_is = refl;
  offered_is = sym (append-nil before.offered);
  kept = takes_none before.booth.kept;
  shown = takes_none before.booth.shown;
  deeds = [];
  deeds_are = refl;
  in_order = tt;
  told_is = refl;
  waited_is = refl;
  faults_are = refl;
  lost_is = refl;
}

module _ {F : Type 0} (fader_stands_for : F → List Start → Type 0) (tells : Type 0)
    (old new : Night F) (before after : Trace)
    (goes : GoesOn fader_stands_for tells old new before after) (p : Production)
    (first : List Happening) (stands : StandsFor fader_stands_for p old first)
    (none : old.lost ≡ 0) (told : tells) where
  pub lived : Lives p first (goes.since ++ []) before after new.lost
  lived = goes.lived told p first [] before stands (rw none (lives_none p first before))

  pub lived_whole : ((happened : List Happening)
      → StandsFor fader_stands_for p new happened → is_over (answers happened) ≡ true)
      → IsLived p first before after new.lost
  lived_whole is_done = record {
    happened = goes.since ++ [];
    lives = lived;
    over = is_done ((goes.since ++ []) ++ first)
        (rw (append-nil goes.since) (goes.stands p first stands));
  }

-- where its clock was set
pub began_at : (first : List Happening) (moment passed least : ℕ) {old new : BoothState}
    → moment ≡ now first → least ≡ min passed 10000 → new ≡ begins (moment + least) old
    → begins (begins_at first passed) old ≡ new
began_at first moment passed least {old = old} is counts set =
    ap (λ at. begins at old) (sym (ap (λ m. m + least) is
    ∙ ap (λ l. now first + l) counts)) ∙ sym set
