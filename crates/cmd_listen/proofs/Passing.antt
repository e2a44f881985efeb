-- What watched universes stand for, line by line.
use Rattle.cmd_listen.proofs.Terms.{◌≡◌, ◌≤◌, ◌<◌, ℕ, true, false, not, List, [], ◌∷◌, ◌++◌, map}
use Rattle.cmd_listen.proofs.Terms.{flat_map, refl, ap, sym, ◌∙◌, append-nil, append_assoc, arith}
use Rattle.cmd_listen.proofs.Terms.{length, ◌==◌, ◌&&◌, ◌||◌, if◌then◌else◌, nat_lt, AllZip}
use Rattle.cmd_listen.proofs.Terms.{list_any, nat_tests, Instant, Monitor, Watching, with_one_more}
use Rattle.cmd_listen.proofs.Terms.{stray_place, MonitorsStand, MonitorStands, Knowledge}
use Rattle.cmd_listen.proofs.Terms.{counts_after, known_after, told_counts, told_text, WatchState}
use Rattle.cmd_listen.proofs.Terms.{after_arrival, arrived_text, instant, last_instant, last_text}
use Rattle.cmd_listen.proofs.Terms.{after_instant, passed_text}

-- a universe is watched where a monitor watches it
any_same : (t to : ℕ) (ms : List Monitor) (ks : List Knowledge) → AllZip (MonitorStands t) ms ks
    → list_any (λ m. to == m.universe) ms ≡ list_any (λ k. to == k.universe) ks
any_same t to [] [] zip = refl
any_same t to [] (k ∷ ks) zip = absurd zip
any_same t to (m ∷ ms) [] zip = absurd zip
any_same t to (m ∷ ms) (k ∷ ks) zip =
    ap (λ u. (to == u) || list_any (λ m. to == m.universe) ms) zip.0.universe_is
    ∙ ap (λ b. (to == k.universe) || b) (any_same t to ms ks zip.1)

pub passes : (i : Instant) (datagram : List ℕ) (old new : Watching) (w : WatchState)
    (text mid all strays : List ℕ) → MonitorsStand old w → new.moment ≡ i.moment
    → strays ≡ counts_after i old.strays
    → new.strays ≡ (if not (length datagram == 0)
    && not (list_any (λ m. i.to == m.universe) old.monitors.items)
    then with_one_more (stray_place datagram) strays else strays)
    → mid ≡ text ++ told_counts i 0 old.strays
    → (AllZip (MonitorStands w.moment) old.monitors.items w.universes
    → AllZip (MonitorStands i.moment) new.monitors.items (map (known_after i datagram) w.universes)
    × (all ≡ mid ++ flat_map (told_text i datagram) w.universes))
    → MonitorsStand new (after_instant i datagram w) × (all ≡ text ++ passed_text i datagram w)
passes i datagram old new w text mid all strays s moment counts stray first each =
    let e = each s.each in
    let told : List ℕ = flat_map (told_text i datagram) w.universes in
    let any = any_same w.moment i.to old.monitors.items w.universes s.each in
    let here : strays ≡ counts_after i w.strays = counts ∙ ap (counts_after i) s.strays_are in (
      record {
        moment_is = moment;
        strays_are = stray
            ∙ ap (λ b. if not (length datagram == 0) && not b
            then with_one_more (stray_place datagram) strays else strays) any
            ∙ ap (λ l. if not (length datagram == 0)
            && not (list_any (λ k. i.to == k.universe) w.universes)
            then with_one_more (stray_place datagram) l else l) here;
        each = e.0;
      },
      e.1 ∙ ap (λ l. l ++ told) (first ∙ ap (λ l. text ++ told_counts i 0 l) s.strays_are)
          ∙ append_assoc text (told_counts i 0 w.strays) told,
    )

-- ---- a line whose moment falls, and one whose moment does not

pub falls : (t : ℕ) (datagram : List ℕ) (old new : Watching) (w : WatchState) (text : List ℕ)
    → MonitorsStand old w → t < old.moment → new ≡ record old { strays = new.strays }
    → new.strays ≡ with_one_more 0 old.strays
    → MonitorsStand new (after_arrival t datagram w) × (text ≡ text ++ arrived_text t datagram w)
falls t datagram old new w text s below is strays =
    let lt : t < w.moment = rw s.moment_is at below in
    let b : nat_lt t w.moment ≡ true = grind (arith, nat_tests) in
    rw b (
      rw is (record {
        moment_is = s.moment_is;
        strays_are = strays ∙ ap (with_one_more 0) s.strays_are;
        each = s.each;
      }),
      sym (append-nil text),
    )

pub arrives : (t : ℕ) (datagram : List ℕ) (i : Instant) (old new : Watching) (w : WatchState)
    (text all : List ℕ) → MonitorsStand old w → old.moment ≤ t
    → i ≡ instant old.moment t datagram
    → (MonitorsStand old w → w.moment ≤ i.moment
    → MonitorsStand new (after_instant i datagram w) × (all ≡ text ++ passed_text i datagram w))
    → MonitorsStand new (after_arrival t datagram w) × (all ≡ text ++ arrived_text t datagram w)
arrives t datagram i old new w text all s above is pass =
    let le : w.moment ≤ t = rw s.moment_is at above in
    let b : nat_lt t w.moment ≡ false = grind (arith, nat_tests) in
    let same : i ≡ instant w.moment t datagram = is ∙ ap (λ m. instant m t datagram) s.moment_is in
    rw b (rw same at (pass s (rw same le)))

pub closes : (i : Instant) (old new : Watching) (w : WatchState) (text all : List ℕ)
    → MonitorsStand old w
    → i ≡ last_instant old.moment
    → (MonitorsStand old w → w.moment ≤ i.moment
    → MonitorsStand new (after_instant i [] w) × (all ≡ text ++ passed_text i [] w))
    → all ≡ text ++ last_text w
closes i old new w text all s is pass =
    let same : i ≡ last_instant w.moment = is ∙ ap last_instant s.moment_is in
    let le : w.moment ≤ i.moment = omega (arith, ap (λ (j : Instant). j.moment) same) in
    (pass s le).1 ∙ ap (λ j. text ++ passed_text j [] w) same
