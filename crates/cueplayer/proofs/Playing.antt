-- What `play` says of its lines and its link is a play.
use Rattle.cueplayer.proofs.Terms.{ℕ, refl, ap, ◌∙◌, List, ◌∷◌, ◌++◌, append_assoc, subst, sym}
use Rattle.cueplayer.proofs.Terms.{inl, inr, Ok, Err, Send, Tape, AreOffered, Production}
use Rattle.cueplayer.proofs.Terms.{reading_of, PlayFault, Cut, PlayEndsEarly, CarriedLine}
use Rattle.cueplayer.proofs.Terms.{Emission, Ran, dues_after, history_of, sends_of_run}
use Rattle.cueplayer.proofs.Terms.{PlayLeaves, HasPlayed, RunsArePlays, DryRunsArePlays}
use Rattle.cueplayer.proofs.Terms.{PlaysArePlays}
use Rattle.cmd_faults.specs.declared.fault.RunFault.TheVariants as fault
use Rattle.cmd_play.specs.declared.fault.PlayFault.TheVariants as early

pub runs_plays : RunsArePlays
runs_plays p lines before after lost ran = record {
  offered = sends_of_run ran.run;
  after_is = ran.offered_is;
  is_play = record {
    run = ran.run;
    lines_are = ran.lines_are;
    is_run = ran.is_run;
    offered_are = refl;
  };
}

pub dry_runs_plays : DryRunsArePlays
dry_runs_plays p cut before after dry =
    let ran = dry.ran in
    let last = dry.fails.answered in
    let line : CarriedLine =
    record { line = cut.rest; sends = last.sends; offers = last.offers } in
    record {
      offered = sends_of_run (line ∷ ran.run);
      after_is = last.after_is ∙ ap (λ (sends : List Send). sends ++ last.sends) ran.offered_is
          ∙ append_assoc before.offered (sends_of_run ran.run) last.sends;
      is_play = record {
        run = line ∷ ran.run;
        lines_are = ap (λ (lines : List (List ℕ)). cut.rest ∷ lines) ran.lines_are;
        is_run = (
          subst (λ (lines : List (List ℕ)). AreOffered p.source
              (dues_after p (history_of p.show lines) (reading_of cut.rest)) last.sends last.offers)
              (sym ran.lines_are) last.are_offered,
          ran.is_run,
        );
        offered_are = refl;
      };
    }

module _ (p : Production) where
  abbrev SomeLines : Emission → Emission → Type 0
  SomeLines before after =
      (lines : List (List ℕ)) × HasPlayed p lines before.offered after.offered

  of_run : (lines : List (List ℕ)) (before after : Emission) (lost : ℕ)
      → Ran p lines before after lost → SomeLines before after
  of_run lines before after lost ran = (lines, runs_plays p lines before after lost ran)

  of_left : (f : PlayFault) (cut : Cut) (before after : Emission) → PlayLeaves f p cut before after
      → SomeLines before after
  of_left (early.Line n) cut before after left = of_run cut.lines before after left.0 left.1
  of_left early.Device cut before after left =
      (cut.rest ∷ cut.lines, dry_runs_plays p cut before after left)

  of_early : (f : PlayFault) (ended : Type 0) (fed feeds : Tape ℕ) (before after : Emission)
      → PlayEndsEarly p f ended fed feeds before after → SomeLines before after
  of_early f ended fed feeds before after (inl r) = of_run _ before after r.lost r.ran
  of_early f ended fed feeds before after (inr e) = of_left f _ before after e.leaves

pub plays_plays : (ended : Type 0) → PlaysArePlays ended
plays_plays ended p (Ok x) fed feeds before after is = of_run p _ before after 0 is.ran
plays_plays ended p (Err (fault.Lost n)) fed feeds before after is =
    of_run p _ before after n is.1.ran
plays_plays ended p (Err (fault.Line n)) fed feeds before after is =
    of_early p (early.Line n) ended fed feeds before after is
plays_plays ended p (Err fault.Device) fed feeds before after is =
    of_early p early.Device ended fed feeds before after is
plays_plays ended p (Err _) fed feeds before after is = absurd is
