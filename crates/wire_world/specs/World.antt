-- What does not change in a rehearsal: its consoles, its receivers, and the bytes of its strays.
use Rattle.std.specs.Prelude.{◌≡◌, ℕ, ◌≤◌, ◌<◌, ◌==◌, Bool, IsTrue, List, [], length, replicate}
use Rattle.std.specs.Prelude.{slice_index, slice_index_or}
use Rattle.std.specs.List.{list_any}
use Rattle.std.specs.FinMap as map
use Rattle.patch_core.specs.Frame.{is_base}
use Rattle.sacn_packet.specs.Name.{padded_name}
use Rattle.sacn_source.specs.Identity.{Identity}
use Rattle.console.specs.Streams.{Production, universes_of}

-- the consoles, each a production (a show, the number of its universe of ordinal 0, and who
-- sends), and the universes of the receivers, each by its number, from 0; and the bytes of all
-- strays
pub record World : Type 0 where
  pub consoles : List Production
  pub receivers : List ℕ
  pub strays : List ℕ

-- a console that plays nothing
abbrev pub no_console : Production
no_console = record {
  show = record { cues = map.empty; subs = map.empty; groups = map.empty; patch = map.empty };
  base = 1;
  source = record { cid = replicate 16 0; name = []; priority = 0 };
}

-- console i; one that plays nothing where there is none
abbrev pub console_at : World → ℕ → Production
console_at w i = slice_index_or w.consoles i no_console

-- the universe of receiver r; 0, which is none, where there is no such receiver
abbrev pub universe_at : World → ℕ → ℕ
universe_at w r = slice_index w.receivers r

-- what holds of every source: a CID of 16 bytes, a name that fits its field of 64, and a priority
-- of 0 to 200 (E1.31-2018, CID, source name and priority)
pub record IsIdentity (source : Identity) : Type 0 where
  pub cid_size : length source.cid ≡ 16
  pub name_size : length (padded_name source.name) ≡ 64
  pub priority_range : source.priority ≤ 200

-- a console plays a universe: the show patches a dimmer of it
abbrev pub plays : Production → ℕ → Bool
plays console universe = list_any (λ n. n == universe) (universes_of console)

-- what holds of every console: whoever sends for a universe that it plays is a source, and its
-- universes have numbers, from 1 to 63999
pub record IsConsole (console : Production) : Type 0 where
  pub source_in : (universe : ℕ) → IsTrue (plays console universe) → IsIdentity console.source
  pub base_in : IsTrue (is_base console.show.patch console.base)

-- each console of a world is one
abbrev pub IsWorld : World → Type 0
IsWorld w = (i : ℕ) → i < length w.consoles → IsConsole (console_at w i)
