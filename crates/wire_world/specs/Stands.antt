-- What the consoles and receivers of a rehearsal keep, against the events so far.
-- Of use inside the crate: what its public calls answer is said without these.
use Rattle.console.specs.Streams.{Production}
use Rattle.show_core.specs.Tables.{Tables}
use Rattle.wire_world.specs.declared.setup.Setup.{Setup}
use Rattle.std.specs.Prelude.{map, slice_index, slice_index_or, [], take, ◌<◌, Bool, true, false}
use Rattle.std.specs.Prelude.{◌≡◌, ◌≤◌, ℕ, List, ◌∷◌, length, if◌then◌else◌, is_some, Option, Some}
use Rattle.std.specs.Prelude.{Result, Ok, Err, slice_get, All, IsTrue}
use Rattle.desk_core.specs.declared.answer.Refused.{Refused}
use Rattle.desk_core.specs.declared.answer.Ticked.{Ticked}
use Rattle.desk_core.specs.Played.{Act}
use Rattle.sacn_source.specs.declared.offered.Offered.{Offered}
use Rattle.sacn_receiver.specs.Kept.{ReceiverState, StandsFor}
use Rattle.wire_world.specs.declared.happening.Happening.{Happening}
use Rattle.wire_world.specs.declared.happening.Occurrence.{Occurrence}
use Rattle.wire_world.specs.declared.happening.Occurrence.TheVariants.{Stray}
use Rattle.wire_world.specs.declared.reply.Skip.{Skip}
use Rattle.wire_world.specs.declared.reply.Reply.{Reply}
use Rattle.wire_world.specs.declared.reply.Reply.TheVariants as reply
use Rattle.wire_world.specs.World.{World, no_console, console_at, universe_at, plays, IsIdentity}
use Rattle.wire_world.specs.Happened.{acts, accepted_by}
use Rattle.wire_world.specs.Replies.{last_event_moment, done_one, events_done, reply_to}

abbrev pub order_reply : Result (Unit {0}) Refused → Reply
order_reply (Ok u) = reply.Done
order_reply (Err refused) = reply.Refused refused

abbrev pub tick_reply : Result (Ticked × List (ℕ × Offered)) Refused → Reply
tick_reply (Ok p) = reply.Ticked p.0 p.1
tick_reply (Err refused) = reply.Refused refused

-- each console stands for its history
pub record ConsolesStand {S : Type 0} (stands_for : S → Production → List Act → Type 0)
    (stages : List S) (w : World) (past : List Happening) : Type 0 where
  pub each : length stages ≡ length w.consoles
  pub stand : (i : ℕ) (s : S) → slice_get stages i ≡ Some s
      → stands_for s (console_at w i) (acts w i past)

-- each receiver stands for what it has accepted
pub record AllHear (receivers : List ReceiverState) (w : World) (past : List Happening)
    : Type 0 where
  pub each : length receivers ≡ length w.receivers
  pub universes : (r : ℕ) (k : ReceiverState) → slice_get receivers r ≡ Some k
      → k.universe ≡ universe_at w r
  pub stand : (r : ℕ) (k : ReceiverState) → slice_get receivers r ≡ Some k
      → StandsFor k (accepted_by w r past)

-- each link tells
abbrev pub AllTell : {S : Type 0} → (S → Type 0) → List S → Type 0
AllTell {S} tells stages = (i : ℕ) (s : S) → slice_get stages i ≡ Some s → tells s

-- the events done after one more, which is skipped for this reason, if there is one
abbrev pub unless_skipped : Option Skip → Happening → List Happening → List Happening
unless_skipped o e past = if is_some o then past else e ∷ past

-- no receiver is ahead of a moment
abbrev pub AllBy : List ReceiverState → ℕ → Type 0
AllBy receivers moment =
    (r : ℕ) (k : ReceiverState) → slice_get receivers r ≡ Some k → k.latest ≤ moment

-- the bytes of a stray lie within all strays
abbrev pub StrayFits : ℕ → Occurrence → Type 0
StrayFits size (Stray receiver from to) = (from ≤ to) × (to ≤ size)
StrayFits size _ = Unit {0}

-- all that is kept stands for the events so far
pub record AllAre {S : Type 0} (stands_for : S → Production → List Act → Type 0)
    (tells : S → Type 0) (stages : List S) (receivers : List ReceiverState) (w : World)
    (past : List Happening)
    : Type 0 where
  pub stand : ConsolesStand stands_for stages w past
  pub tell : AllTell tells stages
  pub hear : AllHear receivers w past

-- one event was carried out
pub record IsStep {S : Type 0} (stands_for : S → Production → List Act → Type 0)
    (tells : S → Type 0) (stages : List S) (receivers : List ReceiverState) (last : ℕ)
    (reply : Reply)
    (w : World) (past : List Happening) (e : Happening) : Type 0 where
  pub replied : reply ≡ reply_to w past e
  pub last_is : last ≡ last_event_moment (done_one w past e)
  pub are : AllAre stands_for tells stages receivers w (done_one w past e)

-- a reply that says that the event was skipped
abbrev pub is_skip : Reply → Bool
is_skip (reply.Skipped s) = true
is_skip _ = false

-- the first n events were carried out, and these are the replies to them
pub record HasReplayed {S : Type 0} (stands_for : S → Production → List Act → Type 0)
    (tells : S → Type 0) (stages : List S) (receivers : List ReceiverState) (last : ℕ)
    (replies : List Reply) (w : World) (events : List Happening) (n : ℕ) : Type 0 where
  pub long : length replies ≡ n
  pub last_is : last ≡ last_event_moment (events_done w (take n events))
  pub are : AllAre stands_for tells stages receivers w (events_done w (take n events))
  pub below : (j : ℕ) (e : Happening) → j < n → slice_get events j ≡ Some e
      → slice_get replies j ≡ Some (reply_to w (events_done w (take j events)) e)

-- the console of a setup
abbrev pub cast : List Tables → Setup → Production
cast shows setup = record {
  show = slice_index_or shows setup.show no_console.show;
  base = setup.base;
  source = setup.identity;
}

-- whoever sends for a console that plays a universe is a source
abbrev pub SendersAreSources : List Tables → List Setup → Type 0
SendersAreSources shows setups = All (λ setup. (universe : ℕ)
    → IsTrue (plays (cast shows setup) universe) → IsIdentity setup.identity) setups

-- the first n consoles are open
pub record HasOpened {S : Type 0} (stands_for : S → Production → List Act → Type 0)
    (tells : S → Type 0) (stages : List S) (shows : List Tables) (setups : List Setup) (n : ℕ)
    : Type 0 where
  pub long : length stages ≡ n
  pub each : (i : ℕ) (s : S) (d : Setup) → slice_get stages i ≡ Some s
      → slice_get setups i ≡ Some d → stands_for s (cast shows d) [] × tells s

-- the first n receivers are new
pub record AreListening (receivers : List ReceiverState) (universes : List ℕ) (n : ℕ) : Type 0 where
  pub long : length receivers ≡ n
  pub each : (r : ℕ) (k : ReceiverState) → slice_get receivers r ≡ Some k
      → (k.universe ≡ slice_index universes r) × StandsFor k []

-- the world of a rehearsal
abbrev pub world_of : List Tables → List Setup → List ℕ → List ℕ → World
world_of shows setups receivers strays = record {
  consoles = map (cast shows) setups;
  receivers = receivers;
  strays = strays;
}
