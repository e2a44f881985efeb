-- Why a line is refused, by its words, and how that is told.
use Rattle.std.specs.Prelude.{ℕ, Bool, ◌||◌, is_some, if◌then◌else◌, codes, List, [], ◌∷◌}
use Rattle.ascii_text.specs.Forms.{moment_of, same_word}
use Rattle.live_input.specs.declared.reason.Reason.{Reason}
use Rattle.live_input.specs.declared.reason.Reason.TheVariants.{Long, Ending, Keys, Moment, Go}
use Rattle.live_input.specs.declared.reason.Reason.TheVariants.{Alone}
use Rattle.live_input.specs.declared.reason.Reason.TheVariants.{Goto, Numbered, Master, Unknown}

-- it takes nothing behind it, as `go` does not
abbrev pub stands_alone : List ℕ → Bool
stands_alone word = same_word word (codes "back") || same_word word (codes "end")
    || same_word word (codes "leave") || same_word word (codes "where")
    || same_word word (codes "help") || same_word word (codes "?")

-- why words that begin with this one spell nothing
abbrev pub reason_at : List ℕ → Reason
reason_at word =
    if is_some (moment_of word) then Moment
    else (if same_word word (codes "go") then Go
    else (if stands_alone word then Alone
    else (if same_word word (codes "goto") then Goto
    else (if same_word word (codes "sub") || same_word word (codes "group") then Numbered
    else (if same_word word (codes "master") then Master else Unknown)))))

-- why words spell nothing; a line that says something has none only where keys were left out
abbrev pub refusal_reason : List (List ℕ) → Reason
refusal_reason [] = Keys
refusal_reason (word ∷ words) = reason_at word

abbrev pub refusal_text : Reason → List ℕ
refusal_text Long = codes "a line has at most 200 bytes with its moment"
refusal_text Ending = codes "the night is ending"
refusal_text Keys = codes "arrow and function keys do nothing; help lists the commands"
refusal_text Moment = codes "moments are given by the clock; type the command alone"
refusal_text Go = codes "go takes no number; goto 4 goes to a cue"
refusal_text Alone = codes "back, end, leave, where and help stand alone"
refusal_text Goto = codes "goto wants a cue number, and may have a time: goto 4.5, goto 4.5 in 3"
refusal_text Numbered = codes "sub and group want a number and a level: sub 3 50, group 1 FL"
refusal_text Master = codes "master wants a level: master 50, master FL, master H80"
refusal_text Unknown = codes "no such command; help lists the commands"
