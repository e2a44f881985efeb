-- Plays: the lines that were carried out, and what the link was offered at them. Lists of lines
-- have the newest first.
use Rattle.std.specs.Prelude.{◌≡◌, ℕ, ◌-◌, ◌<◌, List, [], length, slice_index_or}
use Rattle.devices.specs.Send.{Send}
use Rattle.desk_core.specs.Meaning.{latest_frame}
use Rattle.desk_core.specs.Played.{Act}
use Rattle.sacn_source.specs.Stream.{Packet}
use Rattle.console.specs.Streams.{Production}
use Rattle.cmd_play.specs.Run.{CarriedLine, IsRun, history_of, lines_of_run, sends_of_run}
use Rattle.wire_world.specs.World.{no_console}
use Rattle.wire_world.specs.Happened.{packets_of}
use Rattle.wire_world.specs.Sends.{sent_to}

-- a production, the lines that were carried out, and the sends that the link was offered at them,
-- in order
pub record Play : Type 0 where
  pub production : Production
  pub lines : List (List ℕ)
  pub offered : List Send

-- there is a run of these lines, and the link was offered its sends: at each line what is due at
-- it, and nothing else
pub record IsPlay (play : Play) : Type 0 where
  pub run : List CarriedLine
  pub lines_are : lines_of_run run ≡ play.lines
  pub is_run : IsRun play.production run
  pub offered_are : play.offered ≡ sends_of_run run

-- play i; one without lines where there is none
abbrev pub play_at : List Play → ℕ → Play
play_at plays i =
    slice_index_or plays i (record { production = no_console; lines = []; offered = [] })

abbrev pub ArePlays : List Play → Type 0
ArePlays plays = (i : ℕ) → i < length plays → IsPlay (play_at plays i)

-- the calls that the lines spell, without those that were refused
abbrev pub play_history : Play → List Act
play_history play = history_of play.production.show play.lines

-- the datagrams that the link was offered for a universe, send k at place k; one that failed counts
-- too
abbrev pub sends_for : Play → ℕ → List (List ℕ)
sends_for play universe = sent_to universe play.offered

-- the universe's stream, packet k at place k
abbrev pub stream_for : Play → ℕ → List Packet
stream_for play universe = packets_of play.production (play_history play) universe

-- the 512 slots that the show means for a universe at the latest tick, under the commands before
-- that tick
abbrev pub frame_for : Play → ℕ → List ℕ
frame_for play universe =
    latest_frame play.production.show (play_history play) (universe - play.production.base)
