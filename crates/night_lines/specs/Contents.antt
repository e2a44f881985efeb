-- What is told of a show at the start of a night.
use Rattle.std.specs.Prelude.{ℕ, ◌==◌, if◌then◌else◌, List, [], ◌++◌, codes, decimal}
use Rattle.show_core.specs.declared.show.Counts.{Counts}

-- so many of what has this name: 1 cue, 2 cues
abbrev pub count_text : ℕ → List ℕ → List ℕ
count_text count name =
    decimal count ++ codes " " ++ name ++ (if count == 1 then [] else codes "s")

-- how many lines of a show are skipped
abbrev pub skipped_lines_text : ℕ → List ℕ
skipped_lines_text lines = count_text lines (codes "line") ++ codes " skipped"

-- how many notes of weight there are on a show
abbrev pub notes_text : ℕ → List ℕ
notes_text notes = count_text notes (codes "note") ++ codes " of weight"

-- doubts about a show, and what tells more of them
abbrev pub with_advice : List ℕ → List ℕ
with_advice doubts = codes "; " ++ doubts ++ codes ": see cueplayer explain"

-- how many lines of a show are skipped, and how many notes of weight there are on it
abbrev pub doubts_text : ℕ → ℕ → List ℕ
doubts_text lines notes =
    if lines == 0
    then (if notes == 0 then [] else with_advice (notes_text notes))
    else if notes == 0 then with_advice (skipped_lines_text lines)
    else with_advice (skipped_lines_text lines ++ codes ", " ++ notes_text notes)

-- what a show has, and what of it may mean something else than is played
abbrev pub contents_line : Counts → ℕ → ℕ → List ℕ
contents_line counts lines notes =
    codes "show: " ++ count_text counts.cues (codes "cue")
    ++ codes ", " ++ count_text counts.subs (codes "submaster")
    ++ codes ", " ++ count_text counts.groups (codes "group")
    ++ codes ", " ++ count_text counts.dimmers (codes "dimmer")
    ++ doubts_text lines notes ++ codes "\n"
