-- The sources of each universe are its live records, line by line.
use Rattle.cmd_listen.proofs.Terms.{◌≡◌, ◌≤◌, ℕ, Bool, true, false, List, [], ◌∷◌, refl, arith, All}
use Rattle.cmd_listen.proofs.Terms.{nat_lt, nat_tests, All-map, All-weaker, Instant, SourcesAreLive}
use Rattle.cmd_listen.proofs.Terms.{WatchLine, at, blank, malformed, spelled_in, known_after}
use Rattle.cmd_listen.proofs.Terms.{new_known, WatchState, after_spelled, after_arrival, instant}
use Rattle.cmd_listen.proofs.Terms.{after_instant, watch_after}
use Rattle.cmd_listen.proofs.Living.{Fits, known_fits, new_fits}

abbrev AllFit : WatchState → Type 0
AllFit w = All (Fits w.moment) w.universes

passed_fit : (i : Instant) (d : List ℕ) (w : WatchState) → w.moment ≤ i.moment → AllFit w
    → AllFit (after_instant i d w)
passed_fit i d w le fit = All-map (Fits i.moment) (known_after i d) w.universes
    (All-weaker (Fits w.moment) (λ k. Fits i.moment (known_after i d k))
    (λ k. known_fits i d w.moment k le) w.universes fit)

arrived_fit : (t : ℕ) (d : List ℕ) (w : WatchState) → AllFit w → AllFit (after_arrival t d w)
arrived_fit t d w fit = go (nat_lt t w.moment) refl
  where
    go : (b : Bool) → nat_lt t w.moment ≡ b → AllFit (after_arrival t d w)
    go true is = rw is fit
    go false is =
        let le : w.moment ≤ t = grind (arith, nat_tests) in
        rw is (passed_fit (instant w.moment t d) d w le fit)

after_fit : (s : WatchLine) (w : WatchState) → AllFit w → AllFit (after_spelled s w)
after_fit blank w fit = fit
after_fit malformed w fit = fit
after_fit (at t d) w fit = arrived_fit t d w fit

watch_fit : (universes : List ℕ) (lines : List (List ℕ)) → AllFit (watch_after universes lines)
watch_fit universes [] =
    All-map (Fits 0) new_known universes (λ k d inside. new_fits _)
watch_fit universes (line ∷ older) =
    after_fit (spelled_in line) (watch_after universes older) (watch_fit universes older)

pub sources_live : SourcesAreLive
sources_live universes lines =
    let w = watch_after universes lines in
    All-weaker (Fits w.moment) _ (λ k fits. fits.same) w.universes (watch_fit universes lines)
