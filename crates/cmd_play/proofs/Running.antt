-- One line more of a run.
use Rattle.cmd_play.proofs.Terms.{◌≡◌, ℕ, ◌+◌, refl, ap, arith, sym, subst, ◌∙◌, List, [], ◌∷◌}
use Rattle.cmd_play.proofs.Terms.{◌++◌, append_assoc, append-nil, cond, All-nil, sum_by-append}
use Rattle.cmd_play.proofs.Terms.{Send, Tape, with_more, with_more-none, with_more-twice}
use Rattle.cmd_play.proofs.Terms.{AreOffered, Production, reading_of, PlayFault, Cut, with_byte}
use Rattle.cmd_play.proofs.Terms.{ArePlayLines, CarriedLine, CarriesOut, Emission, Ran, dues_after}
use Rattle.cmd_play.proofs.Terms.{history_of, line_text, lines_of_run, sends_of_run, text_of_run}
use Rattle.cmd_play.proofs.Terms.{Device, Line, PlayLeaves, LeavesLine}

-- ---- lines

pub fine_none : ArePlayLines []
fine_none = record { none_malformed = All-nil _; none_long = All-nil _; few = omega arith }

-- ---- runs

pub ran_none : (p : Production) (e : Emission) → Ran p [] e e 0
ran_none p e = record {
  run = [];
  lines_are = refl;
  is_run = tt;
  offered_is = sym (append-nil e.offered);
  printed_is = sym (with_more-none e.printed);
  lost_is = refl;
}

pub ran_more : (p : Production) (line : List ℕ) (older : List (List ℕ))
    (before middle after : Emission) (lost more : ℕ)
    → Ran p older before middle lost → CarriesOut p (history_of p.show older) (reading_of line)
    middle after more
    → Ran p (line ∷ older) before after (lost + more)
ran_more p line older before middle after lost more r l =
    let a = l.answered in
    let c : CarriedLine = record { line = line; sends = a.sends; offers = a.offers } in
    let text : List ℕ = line_text p (history_of p.show (lines_of_run r.run)) (reading_of line)
    a.offers in
    record {
      run = c ∷ r.run;
      lines_are = ap (λ (ls : List (List ℕ)). line ∷ ls) r.lines_are;
      is_run = (
        subst (λ (ls : List (List ℕ)). AreOffered p.source
            (dues_after p (history_of p.show ls) (reading_of line)) a.sends a.offers)
            (sym r.lines_are) a.are_offered,
        r.is_run,
      );
      offered_is = a.after_is ∙ ap (λ (ss : List Send). ss ++ a.sends) r.offered_is
          ∙ append_assoc before.offered (sends_of_run r.run) a.sends;
      printed_is = l.printed_is ∙ ap (λ (t : Tape ℕ). with_more t l.text) r.printed_is
          ∙ ap (λ (t : List ℕ). with_more (with_more before.printed (text_of_run p r.run)) t)
          (a.text_is ∙ ap (λ (ls : List (List ℕ)). line_text p (history_of p.show ls)
          (reading_of line) a.offers) (sym r.lines_are))
          ∙ with_more-twice before.printed (text_of_run p r.run) text;
      lost_is = omega (
        arith,
        r.lost_is,
        a.lost_is,
        sum_by-append (λ (s : Send). cond s.failed 1 0)
            (sends_of_run r.run) a.sends,
      );
    }

-- what the last line leaves is what the bytes leave
pub left_behind : (fault : PlayFault) (p : Production) (cut : Cut) (line : List ℕ)
    (before middle after : Emission) (lost : ℕ) → line ≡ cut.rest
    → Ran p cut.lines before middle lost
    → LeavesLine fault p (history_of p.show cut.lines) (reading_of line) middle after
    → PlayLeaves fault p cut before after
left_behind (Line n) p cut line before middle after lost is ran same = (lost, rw same ran)
left_behind Device p cut line before middle after lost is ran fails =
    record { middle = middle; lost = lost; ran = ran; fails = rw is at fails }

-- the line that LF ends is carried out
pub ran_ended : (p : Production) (cut : Cut) (b : ℕ) (line : List ℕ)
    (before middle after : Emission)
    (lost more : ℕ) → b ≡ 10
    → line ≡ cut.rest → Ran p cut.lines before middle lost
    → CarriesOut p (history_of p.show cut.lines) (reading_of line) middle after more
    → Ran p (with_byte cut b).lines before after (lost + more)
ran_ended p cut b line before middle after lost more e is r l = rw e
    (ran_more p cut.rest cut.lines before middle after lost more r (rw is at l))
