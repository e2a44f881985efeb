-- What a live night shows. Histories, moves and lines have the newest first.
use Rattle.std.specs.Prelude.{◌≡◌, ◌≤◌, ℕ, ◌-◌, nat_lt, Bool, true, List, [], ◌++◌}
use Rattle.std.specs.Prelude.{codes, if◌then◌else◌, flat_map, length, reverse, take}
use Rattle.devices.specs.Tape.{Tape}
use Rattle.show_core.specs.Tables.{Tables}
use Rattle.playback_core.specs.Played.{Move, current_after, go_target}
use Rattle.desk_core.specs.Played.{Act, ticks_since_end, moves, refusal, settings}
use Rattle.sacn_source.specs.declared.offered.Offered.{Offered}
use Rattle.console.specs.Streams.{Production}
use Rattle.console.specs.CueLine.{cue_line}
use Rattle.console.specs.WhereLine.{where_line}
use Rattle.console.specs.declared.reading.Reading.{Reading}
use Rattle.console.specs.declared.reading.Reading.TheVariants.{At}
use Rattle.console.specs.Spelling.{act_of}
use Rattle.cmd_play.specs.declared.performance.Answer.{Answer}
use Rattle.cmd_play.specs.declared.performance.Answer.TheVariants.{Ticked}
use Rattle.cmd_play.specs.Perform.{call_answer, lost_of, text_of_answer}
use Rattle.cmd_play.specs.Run.{acts_after}

-- the answer to a command is shown, and each refusal; that to a tick where it lost a packet
abbrev pub is_shown : Answer → Bool
is_shown (Ticked ticked offers) = nat_lt 0 (lost_of (Ticked ticked offers))
is_shown _ = true

abbrev pub shown_answer : ℕ → Answer → List ℕ
shown_answer moment answer = if is_shown answer then text_of_answer moment answer else []

-- the moves that came behind these
abbrev pub moves_behind : List Move → List Move → List Move
moves_behind before after = take (length after - length before) after

-- their lines, in their order, each with the moment of the move itself
abbrev pub cue_lines : List Move → List ℕ
cue_lines moves = flat_map (λ move. cue_line move.moment move.cue) (reverse moves)

-- what is shown of a line after a history: the answer to its call, and each move that came by it
abbrev pub shown_of : Production → List Act → Reading → List (ℕ × Offered) → List ℕ
shown_of p history (At moment call) offers =
    let answer =
    call_answer (refusal p.show history (act_of moment call)) call (ticks_since_end history)
    offers in
    shown_answer moment answer ++ cue_lines (moves_behind (moves p.show history)
    (moves p.show (acts_after p.show (At moment call) history)))
shown_of p history _ offers = []

-- what is shown of `where` after a history: the current cue and the one that GO would come to, and
-- what all masters are at
abbrev pub shown_place : Tables → List Act → ℕ → List ℕ
shown_place show history moment =
    let current = current_after (moves show history) in
    where_line moment current (go_target show.cues current) (settings history)

-- what is shown of `help`
abbrev pub help_text : List ℕ
help_text = codes "go, back              the next cue, the one before\n"
    ++ codes "goto 4.5              this cue; goto 4.5 in 3: in three seconds, goto 4.5 in 0: at once\n"
    ++ codes "sub 3 50, group 1 FL  a submaster, a group: 0 to 100 percent, FL, or H00 to HFF\n"
    ++ codes "master 80             the grand master\n"
    ++ codes "where                 the current cue, the next one, and what masters are at\n"
    ++ codes "end                   ends the night, dark; leave: receivers keep the light or drop it\n"

-- a text was taken whole, unless a call failed meanwhile
pub record TakesText (before after : Tape ℕ) (text : List ℕ) : Type 0 where
  pub never_fewer : before.failures ≤ after.failures
  pub whole : after.failures ≡ before.failures → after.items ≡ before.items ++ text
