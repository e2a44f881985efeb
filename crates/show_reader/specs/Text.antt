-- The lines of a show text, and what they say. Lists of lines and of statements have the last line
-- first: what stands above a line is the rest of the list.
use Rattle.std.specs.Prelude.{ℕ, Bool, false, if◌then◌else◌, List, [], ◌∷◌, map, reverse, Option}
use Rattle.std.specs.Prelude.{None}
use Rattle.ascii_text.specs.Text.{lines_of, words_of}
use Rattle.show_reader.specs.Terms.{Record, Statement, Quiet, Limits}
use Rattle.show_line.specs.Keywords.{keyword_of, may_own, is_end}
use Rattle.show_line.specs.Said.{statement_in, record_opened}

-- a line, as the list of its words
abbrev pub Words : Type 0
Words = List (List ℕ)

-- its first word is ENDDATA
abbrev pub ends : Words → Bool
ends [] = false
ends (word ∷ words) = is_end (keyword_of word)

-- the lines up to and including the first whose first word is ENDDATA
abbrev pub up_to_end : List Words → List Words
up_to_end [] = []
up_to_end (l ∷ ls) = l ∷ (if ends l then [] else up_to_end ls)

-- the lines of a show text that are read, the last one first
abbrev pub lines_in : List ℕ → List Words
lines_in text = reverse (up_to_end (map words_of (lines_of text)))

-- it is primary, or opens a maker's record
abbrev pub owns : Words → Bool
owns [] = false
owns (word ∷ words) = may_own (keyword_of word)

-- what a line says that this record owns; without words it has no effect
abbrev pub said_under : Limits → Option Record → Words → Statement
said_under lim owner [] = Quiet
said_under lim owner (word ∷ words) = statement_in lim owner (keyword_of word) words

-- the owner below a line: what the line opens, if it is primary or opens a maker's record; else the
-- owner above it
abbrev pub owner_after : Limits → Words → Option Record → Option Record
owner_after lim l owner = if owns l then record_opened (said_under lim owner l) else owner

-- the owner of a secondary line below these lines: the record that the nearest line opens that is
-- primary or opens a maker's record; none where that line is foreign, a maker's, or of another kind
abbrev pub owner_below : Limits → List Words → Option Record
owner_below lim [] = None
owner_below lim (l ∷ above) = owner_after lim l (owner_below lim above)

-- what a line says below these lines
abbrev pub statement_below : Limits → List Words → Words → Statement
statement_below lim above l = said_under lim (owner_below lim above) l

-- what lines say
abbrev pub statements : Limits → List Words → List Statement
statements lim [] = []
statements lim (l ∷ above) = statement_below lim above l ∷ statements lim above

-- what the lines of a show text say
abbrev pub statements_of : Limits → List ℕ → List Statement
statements_of lim text = statements lim (lines_in text)
