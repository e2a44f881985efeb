-- What is told while a night follows a main.
use Rattle.std.specs.Prelude.{ℕ, List, ◌++◌, codes}
use Rattle.night_lines.specs.Clock.{clock_text}

-- why a night goes on by itself, from a moment on
abbrev pub leading_line : ℕ → List ℕ → List ℕ
leading_line moment why =
    clock_text moment ++ codes " " ++ why ++ codes ": goes on by itself\n"

-- that the night came to its end
abbrev pub over_line : ℕ → List ℕ
over_line moment = clock_text moment ++ codes " the main has ended the night\n"

-- a comment of the main's record: lines are missing there
abbrev pub missing_line : List ℕ → List ℕ
missing_line comment = codes
    "the main's record: lines are missing, so its look and this one may differ: "
    ++ comment ++ codes "\n"

-- what can be typed
abbrev pub led_help_line : List ℕ
led_help_line = codes "take: from now on this console leads; "
    ++ codes "where: the current cue, the next one, and what masters are at\n"

-- why what is typed is not carried out
abbrev pub led_reason : List ℕ
led_reason = codes "the main leads; take ends the following"

-- an end of the input that was typed ends nothing
abbrev pub led_reminder_line : List ℕ
led_reminder_line = led_reason ++ codes "\n"
