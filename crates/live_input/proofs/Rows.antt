-- Nights, evaluated.
use Rattle.std.specs.Prelude.{◌≡◌, ◌++◌, true, false, Some, None, refl, codes, [], ◌∷◌}
use Rattle.std.specs.Fmt.{digits}
use Rattle.live_input.specs.Night.{answers, due_after, lines_given, refused_front, came, closed}
use Rattle.live_input.specs.Night.{asked}
use Rattle.live_input.specs.Night.{order, dim, close, tick, place, help, refusal, wait, over}
use Rattle.live_input.specs.Night.{ignored_keys}
use Rattle.live_input.specs.Recall.{recall_of}
use Rattle.live_input.specs.declared.reason.Reason.TheVariants.{Ending, Keys, Moment, Go, Alone}
use Rattle.live_input.specs.declared.reason.Reason.TheVariants.{Goto, Numbered, Master, Unknown}
use Rattle.live_input.specs.Keys.{without_keys}
use Rattle.live_input.specs.Reasons.{refusal_reason}
use Rattle.ascii_text.specs.Text.{words_of}

-- ticks on the grid, one that is late, and those after it
grid : (due_after 0 ≡ 25) × (due_after 25 ≡ 50) × (due_after 27 ≡ 50) × (due_after 28 ≡ 51)
    × (due_after 49 ≡ 72) × (due_after 1000 ≡ 1025)
grid = (refl, refl, refl, refl, refl, refl)

-- a command between two ticks; the clock stands still, and falls
commands : answers (asked 20 ∷ asked 30 ∷ asked 9 ∷ came (codes "Go ! now\n")
    ∷ asked 8 ∷ asked 3 ∷ [])
    ≡ wait 53 ∷ tick 30 ∷ order 9 (codes "Go ! now") ∷ wait 26 ∷ tick 3 ∷ []
unfolding digits
commands = refl

-- half a line is none; the tick that is due goes before the line; what says nothing gives nothing
half : answers (asked 40 ∷ asked 40 ∷ came (codes "ck\n\n! \n")
    ∷ asked 0 ∷ asked 0 ∷ came (codes "ba") ∷ [])
    ≡ order 40 (codes "back") ∷ tick 40 ∷ wait 25 ∷ tick 0 ∷ []
unfolding digits
half = refl

-- where ticks are late each time, a line and a tick take turns
turns : answers (asked 120 ∷ asked 90 ∷ asked 60 ∷ asked 30 ∷ came (codes "go\nback\ngo\n")
    ∷ asked 0 ∷ [])
    ≡ tick 120 ∷ order 90 (codes "back") ∷ tick 60 ∷ order 30 (codes "go") ∷ tick 0 ∷ []
unfolding digits
turns = refl

-- no command ends nothing; at first a line goes before the tick
refused : answers (asked 1 ∷ asked 1 ∷ asked 1 ∷ asked 1 ∷ came (codes "tick\njump 3\ngo\n") ∷ [])
    ≡ order 1 (codes "go") ∷ refusal Unknown (codes "jump 3") ∷ tick 1
    ∷ refusal Unknown (codes "tick") ∷ []
unfolding digits
refused = refl

-- where the night ends with its input: the last line without LF; four ticks with the light down, an
-- `end`, three ticks, and nothing more
ending : answers (asked 200 ∷ asked 175 ∷ asked 150 ∷ asked 125 ∷ asked 101 ∷ asked 100 ∷ asked 75
    ∷ asked 50 ∷ asked 25 ∷ asked 1 ∷ asked 1 ∷ closed true ∷ came (codes "go") ∷ asked 0 ∷ [])
    ≡ over ∷ tick 175 ∷ tick 150 ∷ tick 125 ∷ close 101 None ∷ tick 100 ∷ tick 75 ∷ tick 50
    ∷ tick 25 ∷ dim 1 None ∷ order 1 (codes "go") ∷ tick 0 ∷ []
unfolding digits
ending = refl

-- where it does not, ticks go on
holding : answers (asked 50 ∷ asked 26 ∷ asked 25 ∷ asked 1 ∷ asked 1 ∷ closed false
    ∷ came (codes "go") ∷ asked 0 ∷ [])
    ≡ tick 50 ∷ wait 50 ∷ tick 25 ∷ wait 25 ∷ order 1 (codes "go") ∷ tick 0 ∷ []
unfolding digits
holding = refl

-- an `end` that was typed, a command behind it, and the end of the input
ended_already : answers (asked 50 ∷ asked 25 ∷ asked 2 ∷ asked 1 ∷ closed true ∷ asked 1
    ∷ came (codes "END\ngo\n") ∷ asked 0 ∷ [])
    ≡ tick 50 ∷ tick 25 ∷ wait 25 ∷ refusal Ending (codes "go") ∷ dim 1 (Some (codes "END"))
    ∷ tick 0 ∷ []
unfolding digits
ended_already = refl

-- a night that is left
left : answers (asked 75 ∷ asked 50 ∷ asked 25 ∷ asked 1 ∷ came (codes "Leave ! to the other\n")
    ∷ asked 0 ∷ [])
    ≡ tick 75 ∷ tick 50 ∷ tick 25 ∷ close 1 (Some (codes "Leave ! to the other")) ∷ tick 0 ∷ []
unfolding digits
left = refl

texts : (lines_given (tick 250 ∷ order 249 (codes "go") ∷ refusal Unknown (codes "x")
    ∷ place 2 (codes "where") ∷ help (codes "?") ∷ close 1 None ∷ dim 0 (Some (codes "end")) ∷ [])
    ≡ codes "250 tick" ∷ codes "249 go" ∷ codes "1 end" ∷ codes "0 master 0" ∷ [])
    × (refused_front (codes "go\t" ++ 0 ∷ 255 ∷ 126 ∷ []) ≡ codes "go???~")
unfolding digits
texts = (refl, refl)

-- what is asked is answered behind an `end` too, and is no line for the console
questions : answers (asked 4 ∷ asked 3 ∷ asked 2 ∷ asked 1
    ∷ came (codes "Where ! is it\nleave\n?\nWHERE\n") ∷ asked 0 ∷ [])
    ≡ place 4 (codes "WHERE") ∷ help (codes "?") ∷ close 2 (Some (codes "leave"))
    ∷ place 1 (codes "Where ! is it") ∷ tick 0 ∷ []
unfolding digits
questions = refl

-- why lines are refused
reasons : (refusal_reason (words_of (codes "go 4")) ≡ Go)
    × (refusal_reason (words_of (codes "back 2")) ≡ Alone)
    × (refusal_reason (words_of (codes "END now")) ≡ Alone)
    × (refusal_reason (words_of (codes "help me")) ≡ Alone)
    × (refusal_reason (words_of (codes "25 go")) ≡ Moment)
    × (refusal_reason (words_of (codes "4")) ≡ Moment)
    × (refusal_reason (words_of (codes "goto")) ≡ Goto)
    × (refusal_reason (words_of (codes "goto 0")) ≡ Goto)
    × (refusal_reason (words_of (codes "sub 3")) ≡ Numbered)
    × (refusal_reason (words_of (codes "group 1 FX")) ≡ Numbered)
    × (refusal_reason (words_of (codes "master 101")) ≡ Master)
    × (refusal_reason (words_of (codes "jump 3")) ≡ Unknown)
    × (refusal_reason (words_of (codes "tick")) ≡ Unknown) × (refusal_reason (words_of []) ≡ Keys)
reasons =
    (refl, refl, refl, refl, refl, refl, refl, refl, refl, refl, refl, refl, refl, refl)

-- an arrow, as the modes of a terminal send it, with a shift, and with Alt; F1, also on the Linux
-- console; Delete; Alt and a letter; half a sequence
keys : (without_keys (27 ∷ codes "[Ago") ≡ codes "go")
    × (without_keys (27 ∷ codes "OAgo") ≡ codes "go")
    × (without_keys (codes "g" ++ 27 ∷ codes "[1;2Do") ≡ codes "go")
    × (without_keys (27 ∷ 27 ∷ codes "[Cgo") ≡ codes "go")
    × (without_keys (27 ∷ codes "OPgo") ≡ codes "go")
    × (without_keys (27 ∷ codes "[[Ago") ≡ codes "go")
    × (without_keys (codes "go" ++ 27 ∷ codes "[3~") ≡ codes "go")
    × (without_keys (27 ∷ codes "xgo") ≡ codes "go")
    × (without_keys (codes "go" ++ 27 ∷ codes "[1;") ≡ codes "go")
    × (without_keys (codes "go" ++ 27 ∷ []) ≡ codes "go") × (without_keys (codes "[A") ≡ codes "[A")
keys = (refl, refl, refl, refl, refl, refl, refl, refl, refl, refl, refl)

-- a GO behind an arrow, and an arrow alone
arrows : (answers (asked 1 ∷ asked 1 ∷ came (27 ∷ codes "[Ago\n" ++ 27 ∷ codes "[B\n")
    ∷ asked 0 ∷ [])
    ≡ refusal Keys (27 ∷ codes "[B") ∷ order 1 (27 ∷ codes "[Ago") ∷ tick 0 ∷ [])
    × (lines_given (order 1 (27 ∷ codes "[Ago") ∷ []) ≡ codes "1 go" ∷ [])
    × (ignored_keys (order 1 (27 ∷ codes "[Ago") ∷ []) ≡ true)
    × (ignored_keys (order 1 (codes "go") ∷ refusal Keys (27 ∷ codes "[B") ∷ []) ≡ false)
unfolding digits
arrows = (refl, refl, refl, refl)

-- a night that begins with a cue at full: the first tick shows it
begins : answers (asked 0 ∷ asked 0 ∷ came (codes "goto 3 in 0\n") ∷ [])
    ≡ tick 0 ∷ order 0 (codes "goto 3 in 0") ∷ []
unfolding digits
begins = refl

-- a record of a night that was left, one tick behind `end`, and what happens so that it is given
-- again
record_again : recall_of (codes "25 tick" ∷ codes "3 end" ∷ codes "1 go" ∷ codes "0 tick" ∷ [])
    ≡ asked 25 ∷ asked 3 ∷ came (codes "leave\n") ∷ asked 1 ∷ came (codes "go\n") ∷ asked 0 ∷ []
unfolding digits
record_again = refl

given_again : answers (asked 25 ∷ asked 3 ∷ came (codes "leave\n") ∷ asked 1 ∷ came (codes "go\n")
    ∷ asked 0 ∷ [])
    ≡ tick 25 ∷ close 3 (Some (codes "leave")) ∷ order 1 (codes "go") ∷ tick 0 ∷ []
unfolding digits
given_again = refl
