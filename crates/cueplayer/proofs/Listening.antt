-- What `listen` prints of what a play sent.
use Rattle.cueplayer.proofs.Terms.{◌≡◌, ◌≤◌, ℕ, ◌++◌, refl, ap, sym, ◌∙◌, arith, List, [], ◌∷◌}
use Rattle.cueplayer.proofs.Terms.{map, reverse, append_cancel_left, reverse-reverse, Tape}
use Rattle.cueplayer.proofs.Terms.{with_more, Arrival, heard_all, last_arrival, NeverFall}
use Rattle.cueplayer.proofs.Terms.{shown_slots, slots_line, sends_of_run, listen_text, replies}
use Rattle.cueplayer.proofs.Terms.{history_at_0, Play, IsPlay, arrivals_in, datagrams_in}
use Rattle.cueplayer.proofs.Terms.{ListenLaw, PlayToListen}
use Rattle.sacn_receiver.specs.Taking.{history_after as heard_one}
use Rattle.cueplayer.proofs.Showing.{headline}

-- what never falls and is over at moment 0 was all of it at moment 0
history_is : (u : ℕ) (arrivals : List Arrival) → NeverFall arrivals → last_arrival arrivals ≤ 0
    → history_at_0 u (map (λ a. a.datagram) arrivals) ≡ heard_all 4 u arrivals
history_is u [] falls over = refl
history_is u (a ∷ older) falls over =
    let now : a.moment ≡ 0 = omega (arith, over) in
    ap (λ h. heard_one 4 u h 0 a.datagram)
    (history_is u older falls.1 (omega (arith, over, falls.0)))
    ∙ ap (λ m. heard_one 4 u (heard_all 4 u older) m a.datagram) (sym now)

pub listen_law : ListenLaw
listen_law play u traffic is hears fresh =
    ap (λ slots. replies u (datagrams_in traffic) ++ slots_line slots)
    (ap (λ h. shown_slots h 0)
    (history_is u (arrivals_in traffic) hears.in_order.0 hears.in_order.1)
    ∙ headline play u 0 traffic is hears fresh)

pub play_to_listen : PlayToListen
play_to_listen p lines before after lost offered ran after_is u count given gives printed prints
    traffic listened gave hears fresh =
    let play : Play = record { production = p; lines = lines; offered = offered } in
    let is : IsPlay play = record {
      run = ran.run;
      lines_are = ran.lines_are;
      is_run = ran.is_run;
      offered_are = append_cancel_left before.offered offered (sends_of_run ran.run)
          (sym after_is ∙ ran.offered_is);
    } in
    let these : List (List ℕ) = datagrams_in traffic in
    let same : listened.datagrams ≡ these =
    sym (reverse-reverse listened.datagrams)
    ∙ ap reverse (append_cancel_left given.items (reverse listened.datagrams) (reverse these)
    (ap (λ (t : Tape (List ℕ)). t.items) (sym listened.gave) ∙ gave))
    ∙ reverse-reverse these in
    listened.leaves ∙ ap (λ ds. with_more printed (listen_text u ds)) same
    ∙ ap (with_more printed) (listen_law play u traffic is hears fresh)
