-- A record whose lines are carried out again, byte by byte.
use Rattle.std.proofs.Common.{◌≡◌, ℕ, ◌+◌, ◌-◌, ◌<◌, ◌≤◌, true, false, refl, ap, arith, sym, ◌∙◌}
use Rattle.std.proofs.Common.{List, [], ◌∷◌, ◌++◌, length, get_or, take, drop, take-append-drop}
use Rattle.std.proofs.Common.{append-nil}
use Rattle.std.proofs.Common.{append_assoc, subst}
use Rattle.std.specs.Prelude.{slice_range, ◌==◌}
use Rattle.std.proofs.lemmas.Bool.Decides.{nat_tests}
use Rattle.std.proofs.lemmas.List.{take_more, drop_more, get_or-drop, length-drop}
use Rattle.std.proofs.lemmas.List.Sums.{fold-append}
use Rattle.fade_core.specs.Level.{Start}
use Rattle.console.specs.Streams.{Production}
use Rattle.devices.specs.Send.{Send}
use Rattle.console.specs.Offering.{AreOffered}
use Rattle.console.specs.Spelling.{reading_of}
use Rattle.ascii_text.specs.Lines.{Cut, cut_of, no_bytes, with_byte}
use Rattle.cmd_play.specs.Run.{dues_after, history_from, history_of, lines_of_run, sends_of_run}
use Rattle.live_input.specs.Night.{Happening}
use Rattle.live_input.specs.Recall.{AreRecalled, IsRecalled, recall_of, recall_line}
use Rattle.live_input.specs.Stands as live
use Rattle.cmd_live.specs.declared.night.Night.{Night}
use Rattle.live_input.proofs.Recalling.{recalled_lines}
use Rattle.cmd_live.specs.Beginning.{IsFirstOther, IsReady, OffersLine, TakesUp}
use Rattle.cmd_live.specs.Night.{history_at}
use Rattle.cmd_live.specs.Stands.{StandsFor}
use Rattle.cmd_live.proofs.Living.{history_joined}

abbrev cut_at : List ℕ → ℕ → Cut
cut_at text at = cut_of (take at text)

-- some bytes of a text were taken: their lines were taken up, and the bytes behind the last LF are
-- those from a place on
pub record HasTaken {F : Type 0} (sf : F → List Start → Type 0) (told tells : Type 0)
    (old new : Night F) (text : List ℕ) (at from number : ℕ) (before after : List Send)
    : Type 0 where
  pub told_before : tells → told
  pub takes : TakesUp sf tells old new (cut_at text at).lines before after
  pub number_is : number ≡ length (cut_at text at).lines
  pub rest_is : (cut_at text at).rest ≡ slice_range text from at
  pub from_in : from ≤ at
  pub few : number ≤ at

-- one byte more
cut_more : (text : List ℕ) (at : ℕ) → at < length text
    → cut_at text (at + 1) ≡ with_byte (cut_at text at) (get_or text at 0)
cut_more text at within = ap cut_of (take_more text at 0 within)
    ∙ fold-append with_byte no_bytes (take at text) (get_or text at 0 ∷ [])

range_more : (text : List ℕ) (from at : ℕ) → from ≤ at → at < length text
    → slice_range text from (at + 1) ≡ slice_range text from at ++ get_or text at 0 ∷ []
range_more text from at behind within =
    let k : (at + 1) - from ≡ (at - from) + 1 = omega (arith, behind) in
    let j : from + (at - from) ≡ at = omega (arith, behind) in
    ap (λ n. take n (drop from text)) k
    ∙ take_more (drop from text) (at - from) 0
    (omega (arith, behind, within, length-drop from text))
    ∙ ap (λ b. slice_range text from at ++ b ∷ []) (get_or-drop from text (at - from) 0
    ∙ ap (λ n. get_or text n 0) j)

module _ {F : Type 0} (sf : F → List Start → Type 0) (tells : Type 0) (a : Night F)
    (before : List Send) where
  pub takes_none : (after : List Send) → IsReady a → (tells → after ≡ before)
      → TakesUp sf tells a a [] before after
  takes_none after ready same = record {
    stands = λ p older stands. stands;
    are_recalled = λ p older stands are. are;
    follows = λ told p older stands are. record {
      run = [];
      lines_are = refl;
      is_run = tt;
      after_is = same told ∙ sym (append-nil before);
    };
    ready = ready;
  }

  -- one line more
  pub takes_one : (first next : Type 0) (b c : Night F) (line : List ℕ) (lines : List (List ℕ))
      (middle after : List Send) → TakesUp sf first a b lines before middle → (next → first)
      → ((p : Production) (h : List Happening) → StandsFor sf p b h
      → StandsFor sf p c (recall_line line h))
      → ((h : List Happening) → live.StandsFor b.input h → IsRecalled line h)
      → (next → (p : Production) (h : List Happening) → StandsFor sf p b h
      → OffersLine p (history_at p.show h) line middle after)
      → IsReady c → TakesUp sf next a c (line ∷ lines) before after
  takes_one first next b c line lines middle after takes tell then is offers ready = record {
    stands = λ p older stands. then p (recall_of (lines ++ older)) (takes.stands p older stands);
    are_recalled = λ p older stands are. (
      is (recall_of (lines ++ older)) (takes.stands p older stands).input_stands,
      takes.are_recalled p older stands are,
    );
    follows = λ told p older stands are.
        let so_far = takes.follows (tell told) p older stands are in
        let all = takes.are_recalled p older stands are in
        let offered = offers told p (recall_of (lines ++ older)) (takes.stands p older stands) in
        let history_is : history_at p.show (recall_of (lines ++ older))
        ≡ history_from p.show (history_of p.show older) (lines_of_run so_far.run) =
        ap (history_of p.show) (recalled_lines (lines ++ older) all)
        ∙ history_joined p.show lines older
        ∙ ap (history_from p.show (history_of p.show older)) (sym so_far.lines_are) in
        record {
          run = record { line = line; sends = offered.sends; offers = offered.offers }
              ∷ so_far.run;
          lines_are = ap (λ ls. line ∷ ls) so_far.lines_are;
          is_run = (
            subst (λ h. AreOffered p.source (dues_after p h (reading_of line)) offered.sends
                offered.offers) history_is offered.are_offered,
            so_far.is_run,
          );
          after_is = offered.after_is ∙ ap (λ sent. sent ++ offered.sends) so_far.after_is
              ∙ append_assoc before (sends_of_run so_far.run) offered.sends;
        };
    ready = ready;
  }

  module _ (told : Type 0) (text : List ℕ) where
    pub taken_none : (after : List Send) → (tells → told) → IsReady a → (tells → after ≡ before)
        → HasTaken sf told tells a a text 0 0 0 before after
    taken_none after tell ready same = record {
      told_before = tell;
      takes = takes_none after ready same;
      number_is = refl;
      rest_is = refl;
      from_in = omega arith;
      few = omega arith;
    }

    -- a byte that is no LF
    pub taken_byte : (b : Night F) (at from number : ℕ) (after : List Send) → at < length text
        → (get_or text at 0 == 10) ≡ false
        → HasTaken sf told tells a b text at from number before after
        → HasTaken sf told tells a b text (at + 1) from number before after
    taken_byte b at from number after within other r = record {
      told_before = r.told_before;
      takes = rw (cut_more text at within, other) r.takes;
      number_is = rw (cut_more text at within, other) r.number_is;
      rest_is = rw (cut_more text at within, other)
          (ap (λ l. l ++ get_or text at 0 ∷ []) r.rest_is
          ∙ sym (range_more text from at r.from_in within));
      from_in = omega (arith, r.from_in);
      few = omega (arith, r.few);
    }

    -- LF behind a line that is given again
    pub taken_line : (next : Type 0) (b c : Night F) (at from number : ℕ) (middle after : List Send)
        → at < length text → (get_or text at 0 == 10) ≡ true
        → HasTaken sf told tells a b text at from number before middle → (next → tells)
        → ((q : Production) (h : List Happening) → StandsFor sf q b h
        → StandsFor sf q c (recall_line (slice_range text from at) h))
        → ((h : List Happening) → live.StandsFor b.input h
        → IsRecalled (slice_range text from at) h)
        → (next → (p : Production) (h : List Happening) → StandsFor sf p b h
        → OffersLine p (history_at p.show h) (slice_range text from at) middle after)
        → IsReady c
        → HasTaken sf told next a c text (at + 1) (at + 1) (number + 1) before after
    taken_line next b c at from number middle after within ends r tell then is offers ready =
        record {
          told_before = λ t. r.told_before (tell t);
          takes = rw (cut_more text at within, ends, r.rest_is)
              (takes_one tells next b c (slice_range text from at) (cut_at text at).lines
              middle after
              r.takes tell then is offers ready);
          number_is = rw (cut_more text at within, ends) (omega (arith, r.number_is));
          rest_is = rw (cut_more text at within, ends) (ap (λ n. take n (drop (at + 1) text))
              (let e : 0 ≡ (at + 1) - (at + 1) = omega arith in e));
          from_in = omega arith;
          few = omega (arith, r.few);
        }

    -- LF behind a line that is not
    pub stops_here : (b : Night F) (at from number : ℕ) (after : List Send) → at < length text
        → (get_or text at 0 == 10) ≡ true
        → HasTaken sf told tells a b text at from number before after
        → ((h : List Happening) → live.StandsFor b.input h
        → IsRecalled (slice_range text from at) h → ⊥)
        → (p : Production) (older : List (List ℕ)) → StandsFor sf p a (recall_of older)
        → AreRecalled older → IsFirstOther older text (number + 1)
    stops_here b at from number after within ends r other p older stands are = record {
      front = take at text;
      rest = drop (at + 1) text;
      text_is = sym (take-append-drop at text) ∙ ap (λ l. take at text ++ l)
          (drop_more text at 0 within ∙ ap (λ b. b ∷ drop (at + 1) text)
          (let e : get_or text at 0 ≡ 10 = grind (arith, nat_tests) in e));
      are_recalled = r.takes.are_recalled p older stands are;
      other = rw r.rest_is (other (recall_of ((cut_at text at).lines ++ older))
          (r.takes.stands p older stands).input_stands);
      number_is = omega (arith, r.number_is);
    }
