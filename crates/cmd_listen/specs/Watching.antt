-- Several universes that are watched, line by line. Lists of lines have the newest first.
use Rattle.std.specs.Prelude.{ℕ, ◌/◌, ◌==◌, nat_lt, Bool, not, ◌&&◌, List, [], ◌∷◌, ◌++◌, map}
use Rattle.std.specs.Prelude.{flat_map, if◌then◌else◌, length, true}
use Rattle.std.specs.List.{list_any}
use Rattle.std.specs.Option.{option_map_or}
use Rattle.sacn_packet.specs.Faults.{fault_of}
use Rattle.sacn_packet.specs.Reading.{front_packet}
use Rattle.cmd_listen.specs.declared.instant.Instant.{Instant}
use Rattle.cmd_listen.specs.Ignored.{with_one_more, none_counted, stray_place}
use Rattle.cmd_listen.specs.Reading.{WatchLine, at, spelled_in}
use Rattle.cmd_listen.specs.Universe.{Knowledge, counts_after, known_after, new_known, told_counts}
use Rattle.cmd_listen.specs.Universe.{told_text}

-- the moment of the last line; the datagrams that no universe was handed, and that were not told of
-- yet; and the universes
pub record WatchState : Type 0 where
  pub moment : ℕ
  pub strays : List ℕ
  pub universes : List Knowledge

abbrev pub new_watch : List ℕ → WatchState
new_watch universes = record {
  moment = 0;
  strays = none_counted;
  universes = map new_known universes;
}

-- the universe of the data packet in a datagram, and 0, which no universe is, where there is none
abbrev pub universe_in : List ℕ → ℕ
universe_in datagram =
    option_map_or (λ _. 0) (fault_of datagram) (front_packet datagram).fields.universe

-- a line at a moment, after one before: counts are told in the first line of a second, and slots
-- are looked at in the first line of a tenth of a second
abbrev pub instant : ℕ → ℕ → List ℕ → Instant
instant before moment datagram = record {
  moment = moment;
  to = universe_in datagram;
  tells = not (before / 1000 == moment / 1000);
  looks = not (before / 100 == moment / 100);
}

-- the end of the lines: all is told
abbrev pub last_instant : ℕ → Instant
last_instant moment = record { moment = moment; to = 0; tells = true; looks = true }

-- there is a datagram, and it is for none of the universes
abbrev pub is_stray : Instant → List ℕ → List Knowledge → Bool
is_stray i datagram universes =
    not (length datagram == 0) && not (list_any (λ k. i.to == k.universe) universes)

abbrev pub strays_after : Instant → List ℕ → WatchState → List ℕ
strays_after i datagram w =
    if is_stray i datagram w.universes
    then with_one_more (stray_place datagram) (counts_after i w.strays)
    else counts_after i w.strays

abbrev pub after_instant : Instant → List ℕ → WatchState → WatchState
after_instant i datagram w = record {
  moment = i.moment;
  strays = strays_after i datagram w;
  universes = map (known_after i datagram) w.universes;
}

-- of what no universe was handed it is told under universe 0, and then of each universe
abbrev pub passed_text : Instant → List ℕ → WatchState → List ℕ
passed_text i datagram w =
    told_counts i 0 w.strays ++ flat_map (told_text i datagram) w.universes

-- a line whose moment falls is ignored
abbrev pub after_arrival : ℕ → List ℕ → WatchState → WatchState
after_arrival moment datagram w =
    if nat_lt moment w.moment then record w { strays = with_one_more 0 w.strays }
    else after_instant (instant w.moment moment datagram) datagram w

abbrev pub arrived_text : ℕ → List ℕ → WatchState → List ℕ
arrived_text moment datagram w =
    if nat_lt moment w.moment then []
    else passed_text (instant w.moment moment datagram) datagram w

abbrev pub after_spelled : WatchLine → WatchState → WatchState
after_spelled (at moment datagram) w = after_arrival moment datagram w
after_spelled _ w = w

abbrev pub text_spelled : WatchLine → WatchState → List ℕ
text_spelled (at moment datagram) w = arrived_text moment datagram w
text_spelled _ w = []

-- the universes after some lines, and what was told at them
abbrev pub watch_after : List ℕ → List (List ℕ) → WatchState
watch_after universes [] = new_watch universes
watch_after universes (line ∷ older) = after_spelled (spelled_in line) (watch_after universes older)

abbrev pub told_at : List ℕ → List (List ℕ) → List ℕ
told_at universes [] = []
told_at universes (line ∷ older) =
    told_at universes older ++ text_spelled (spelled_in line) (watch_after universes older)

-- what is told at the end of the lines
abbrev pub last_text : WatchState → List ℕ
last_text w = passed_text (last_instant w.moment) [] w

-- all that is told of some lines
abbrev pub watch_text : List ℕ → List (List ℕ) → List ℕ
watch_text universes lines = told_at universes lines ++ last_text (watch_after universes lines)
