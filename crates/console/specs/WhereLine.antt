-- What is printed of where a night is.
use Rattle.std.specs.Prelude.{ℕ, ◌==◌, if◌then◌else◌, List, [], ◌++◌, codes, decimal, flat_map}
use Rattle.std.specs.Prelude.{Option, Some, None}
use Rattle.std.specs.List.{range_with_len}
use Rattle.master_core.specs.Settings.{Setting, grand_after, group_after, sub_after}
use Rattle.console.specs.CueLine.{cue_text}
use Rattle.console.specs.Texts.{moment_line}

-- a cue behind its word, where there is one
abbrev pub cue_part : List ℕ → Option ℕ → List ℕ
cue_part word None = []
cue_part word (Some cue) = word ++ cue_text cue

-- a submaster or a group with its byte, where that is above 0
abbrev pub master_text : List ℕ → ℕ → ℕ → List ℕ
master_text word n byte =
    if byte == 0 then []
    else codes " " ++ word ++ codes " " ++ decimal n ++ codes ":" ++ decimal byte

unfoldable pub subs_text : List Setting → List ℕ
subs_text settings =
    flat_map (λ n. master_text (codes "sub") n (sub_after settings n)) (range_with_len 1 100)

unfoldable pub groups_text : List Setting → List ℕ
groups_text settings =
    flat_map (λ n. master_text (codes "group") n (group_after settings n)) (range_with_len 1 500)

-- the current cue and the one that GO would come to, where there are such, the grand master, and
-- the submasters and groups that stand above 0, ascending
abbrev pub where_line : ℕ → Option ℕ → Option ℕ → List Setting → List ℕ
where_line moment current next settings =
    moment_line moment (codes "where" ++ cue_part (codes " cue ") current
    ++ cue_part (codes " next ") next ++ codes " master " ++ decimal (grand_after settings)
    ++ subs_text settings ++ groups_text settings)
