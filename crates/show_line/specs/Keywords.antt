-- The keywords of a show text, without regard to ASCII case.
use Rattle.std.specs.Prelude.{ℕ, Bool, true, false, nat_eq, if◌then◌else◌, List, [], ◌∷◌, codes}
use Rattle.std.specs.Prelude.{Option, Some}
use Rattle.std.specs.Prelude.{None, unwrap_or}
use Rattle.std.specs.List.{starts_with}
use Rattle.std.specs.Option.{option_or}
use Rattle.ascii_text.specs.Forms.{same_word}
use Rattle.show_line.specs.declared.keyword.Keyword.{Keyword}
use Rattle.show_line.specs.declared.keyword.Keyword.TheVariants.{Clear, Ident, Cue, Group, Sub}
use Rattle.show_line.specs.declared.keyword.Keyword.TheVariants.{Patch}
use Rattle.show_line.specs.declared.keyword.Keyword.TheVariants.{EndData, Setting, Chan, Up, Down}
use Rattle.show_line.specs.declared.keyword.Keyword.TheVariants.{FollowOn, Remark}
use Rattle.show_line.specs.declared.keyword.Keyword.TheVariants.{Maker, Unknown}

-- the primary keywords, each with what it makes of its line
abbrev pub primary_keywords : List (List ℕ × Keyword)
primary_keywords =
    (codes "clear", Clear) ∷ (codes "console", Setting) ∷ (codes "cue", Cue)
    ∷ (codes "enddata", EndData) ∷ (codes "group", Group) ∷ (codes "ident", Ident)
    ∷ (codes "manufacturer", Setting) ∷ (codes "patch", Patch)
    ∷ (codes "set", Setting) ∷ (codes "sub", Sub) ∷ []

-- the secondary keywords
abbrev pub secondary_keywords : List (List ℕ × Keyword)
secondary_keywords =
    (codes "chan", Chan) ∷ (codes "down", Down) ∷ (codes "followon", FollowOn)
    ∷ (codes "link", Remark) ∷ (codes "part", Remark) ∷ (codes "text", Remark) ∷ (
      codes "up",
      Up,
    ) ∷ []

-- the value of the first entry that is this word
abbrev pub value_for : {X : Type 0} → List (List ℕ × X) → List ℕ → Option X
value_for [] word = None
value_for (e ∷ es) word = if same_word word e.0 then Some e.1 else value_for es word

-- `$$` and unknown words are skipped alone, one `$` opens a maker's record
abbrev pub keyword_of : List ℕ → Keyword
keyword_of word =
    if starts_with nat_eq word (codes "$$") then Unknown
    else (if starts_with nat_eq word (codes "$") then Maker
    else
    unwrap_or (option_or (value_for secondary_keywords word) (value_for primary_keywords word))
    Unknown)

-- it is primary, or opens a maker's record: the secondary lines below it are its own
abbrev pub may_own : Keyword → Bool
may_own Chan = false
may_own Up = false
may_own Down = false
may_own FollowOn = false
may_own Remark = false
may_own Unknown = false
may_own _ = true

-- the keyword with which reading ends
abbrev pub is_end : Keyword → Bool
is_end EndData = true
is_end _ = false
