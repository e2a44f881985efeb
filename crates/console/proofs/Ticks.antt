-- What an accepted tick offers, and what it leaves.
use Rattle.std.proofs.Common.{◌≡◌, ◌≤◌, ◌<◌, ◌+◌, ℕ, refl, arith, sym, ◌∙◌, List, [], ◌∷◌, ◌++◌}
use Rattle.std.proofs.Common.{Some, None, Ok, Err, Result, append-nil, append_assoc}
use Rattle.std.specs.Prelude.{Option}
use Rattle.std.specs.Option.{option_map_or}
use Rattle.std.proofs.lemmas.Bool.Decides.{nat_tests}
use Rattle.fade_core.specs.Level.{Start}
use Rattle.devices.specs.Send.{Send}
use Rattle.desk_core.specs.declared.answer.Refused.{Refused}
use Rattle.desk_core.specs.declared.answer.Ticked.{Ticked}
use Rattle.desk_core.specs.declared.answer.Ticked.TheVariants.{Live, Ending}
use Rattle.desk_core.specs.declared.instruction.Instruction.{Instruction}
use Rattle.desk_core.specs.DeskState.{DeskState}
use Rattle.desk_core.specs.Meaning.{universe_numbers}
use Rattle.desk_core.specs.Played.{Act, Call, ticks_since_end, ended_by, last_tick, outcome, refusal}
use Rattle.desk_core.specs.Played.{order_at, tick_answer, tick_at}
use Rattle.desk_core.specs.Stands as desk
use Rattle.sacn_source.specs.Identity.{Identity}
use Rattle.sacn_source.specs.Kept.{Lane}
use Rattle.sacn_source.specs.Offering as sender
use Rattle.sacn_source.specs.Stream.{Packet, earliest_after}
use Rattle.sacn_source.specs.declared.offered.Offered.{Offered}
use Rattle.console.specs.ConsoleState.{ConsoleState}
use Rattle.console.specs.Offering.{AreOffered, none, quiet, sent, OffersDues}
use Rattle.console.specs.Stands.{HasStreams, IsMidTick, StandsFor}
use Rattle.console.proofs.Streams.{ended_same}
use Rattle.console.specs.Streams.{Due, Production, offers_of, universes_of}

-- ---- what the link is offered

AreOffered-append : {source : Identity} {ds es : List Due} {ss ts : List Send}
    {ps qs : List (ℕ × Offered)}
    → AreOffered source ds ss ps → AreOffered source es ts qs
    → AreOffered source (ds ++ es) (ss ++ ts) (ps ++ qs)
AreOffered-append none more = more
AreOffered-append (quiet d ds ss ps is rest) more = quiet d _ _ _ is (AreOffered-append rest more)
AreOffered-append (sent d p s ds ss ps is rest) more = sent d p s _ _ _ is
    (AreOffered-append rest more)

-- one offer more
pub offers_more : {source : Identity} {ds : List Due} {ps : List (ℕ × Offered)}
    {before mid after : List Send} (answer : Offered) (d : Due) (packet : Option Packet)
    → d.packet ≡ packet → OffersDues source ds ps before mid
    → sender.Offers source d.universe d.place packet answer mid after
    → OffersDues source (ds ++ d ∷ []) (ps ++ (d.universe, answer) ∷ []) before after
offers_more {source} answer d None is first o =
    let more : AreOffered source (d ∷ []) [] ((d.universe, answer) ∷ []) =
    rw o.0 (quiet d [] [] [] is none) in
    record {
      sends = first.sends ++ [];
      are_offered = AreOffered-append first.are_offered more;
      after_is = rw (append-nil first.sends, o.1) first.after_is;
    }
offers_more {source} {before = before} answer d (Some p) is first o =
    let send : Send = record { universe = d.universe; bytes = o.0; failed = o.1 } in
    let more : AreOffered source (d ∷ []) (send ∷ []) ((d.universe, answer) ∷ []) = rw o.3
    (sent d p send [] [] [] (record { packet_is = is; universe_is = refl; bytes_are = o.2 }) none)
    in record {
      sends = first.sends ++ send ∷ [];
      are_offered = AreOffered-append first.are_offered more;
      after_is = rw (o.4, first.after_is) (append_assoc before first.sends (send ∷ []));
    }

-- ---- ticks before End and after it

pub live_by : (n : Option ℕ) → Live ≡ tick_answer n → n ≡ None
live_by None e = refl
live_by (Some n) e = cc

pub ending_by : (n : Option ℕ) (i : ℕ) → Ending i ≡ tick_answer n → (m : ℕ) × (n ≡ Some m)
ending_by None i e = cc
ending_by (Some n) i e = (n, refl)

not_ended_before : (c : Call) (n : Option ℕ) → ended_by c n ≡ None → n ≡ None
not_ended_before c n e = grind arith

-- the last tick before End is the newest offer
newest_offer : (p : Production) (u : ℕ) (h : List Act) → ticks_since_end h ≡ None
    → earliest_after (offers_of p u h) ≡ option_map_or (λ t. t + 1) (last_tick h) 0
newest_offer p u [] live = refl
newest_offer p u (act ∷ older) live =
    grind (arith, newest_offer p u older, not_ended_before act.call (ticks_since_end older) live)

-- a tick before End is later than each offer
pub offered_before : (p : Production) (u moment : ℕ) (older : List Act)
    → refusal p.show older (tick_at moment) ≡ None → ticks_since_end older ≡ None
    → earliest_after (offers_of p u older) ≤ moment
offered_before p u moment older accepted live =
    grind (arith, nat_tests, newest_offer p u older live)

-- one after it is one of three
pub fewer_than_three : (p : Production) (moment n : ℕ) (older : List Act)
    → refusal p.show older (tick_at moment) ≡ None → ticks_since_end older ≡ Some n → n < 3
fewer_than_three p moment n older accepted e = grind (arith, nat_tests)

-- ---- calls of a console

-- the numbers that the desk gives are the universes
pub numbers_are : {F : Type 0} {sf : F → List Start → Type 0} {p : Production}
    {state : DeskState F} {older : List Act} {moment : ℕ} {answer : Ticked} {us items : List ℕ}
    → IsMidTick sf p state older moment answer → us ≡ items
    → items ≡ universe_numbers state.show.patch state.base → us ≡ universes_of p
numbers_are t value numbers =
    rw (← t.desk_stands.show_is, ← t.desk_stands.base_is) (value ∙ numbers)

accepted_by : (o : Option Refused) (a b : Ticked) → Ok a ≡ outcome o b → (o ≡ None) × (a ≡ b)
accepted_by None a b e = (refl, cc)
accepted_by (Some r) a b e = cc

pub refused_by : (o : Option Refused) (r : Refused) (b : Ticked) → Err r ≡ outcome o b
    → o ≡ Some r
refused_by None r b e = cc
refused_by (Some q) r b e = cc

-- a tick that the desk accepted, with its sender still to come
pub tick_stands : {F : Type 0} {sf : F → List Start → Type 0} {p : Production}
    {view state : ConsoleState F} {history : List Act} (new : DeskState F) (moment : ℕ)
    {answer : Ticked} {r : Result Ticked Refused} → view ≡ state → r ≡ Ok answer
    → ((show : _) (base : ℕ) (h : List Act) → desk.StandsFor sf show base view.desk h
    → r ≡ outcome (refusal show h (tick_at moment)) (tick_answer (ticks_since_end h)))
    → ((show : _) (base : ℕ) (h : List Act) → desk.StandsFor sf show base view.desk h
    → desk.StandsFor sf show base new (tick_at moment ∷ h))
    → StandsFor sf p state history
    → IsMidTick sf p new history moment answer × HasStreams p view.sender history
tick_stands {p = p} {history = history} new moment same is answers stands s =
    let t = rw (← same) at s in
    let a = accepted_by _ _ _ (sym is ∙ answers p.show p.base history t.desk_stands) in (
      record {
        desk_stands = stands p.show p.base history t.desk_stands;
        accepted = a.0;
        answer_is = a.1;
      },
      t.streams_stand,
    )

pub streams_ordered : (p : Production) (lanes : List Lane) (moment : ℕ) (c : Instruction)
    (history : List Act)
    → HasStreams p lanes history → HasStreams p lanes (order_at moment c ∷ history)
streams_ordered p lanes moment c history s = record {
  universes_are = s.universes_are;
  streams = rw (ended_same c (ticks_since_end history)) s.streams;
}
