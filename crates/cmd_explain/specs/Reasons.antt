-- Why a line of a show text is skipped.
use Rattle.std.specs.Prelude.{ℕ, List, [], ◌∷◌, ◌++◌, codes, decimal, unwrap_or}
use Rattle.ascii_text.specs.Forms.{number_of}
use Rattle.show_line.specs.declared.keyword.Keyword.{Keyword}
use Rattle.show_line.specs.declared.keyword.Keyword.TheVariants as keyword
use Rattle.show_reader.specs.Text.{Words}
use Rattle.cmd_explain.specs.declared.heading.Heading.{Heading}
use Rattle.cmd_explain.specs.declared.heading.Heading.TheVariants as heading
use Rattle.cmd_explain.specs.declared.reason.Reason.{Reason}
use Rattle.cmd_explain.specs.declared.reason.Reason.TheVariants as reason
use Rattle.cmd_explain.specs.Headings.{heading_below, keyword_in, operands}

-- the page that is the first of some words, page 1 where there are none
abbrev pub page_in : Words → ℕ
page_in [] = 1
page_in (page ∷ words) = unwrap_or (number_of page) 0

-- the page of a CUE, GROUP or SUB: it stands behind the number
abbrev pub record_page_in : Words → ℕ
record_page_in [] = 1
record_page_in (number ∷ words) = page_in words

-- an unknown keyword: all that a maker's record has is the maker's
abbrev pub unknown_under : Heading → Reason
unknown_under heading.Maker = reason.MakersRecord
unknown_under _ = reason.UnknownKeyword

-- a secondary line
abbrev pub secondary_under : Heading → Reason
secondary_under heading.Maker = reason.MakersRecord
secondary_under heading.OtherPage = reason.SkippedRecord
secondary_under _ = reason.NoRecord

-- why a line is skipped that this heads, by its keyword and the words behind it
abbrev pub reason_of : Heading → Keyword → Words → Reason
reason_of above keyword.Maker words = reason.MakersRecord
reason_of above keyword.Clear words = reason.UnknownClear
reason_of above keyword.Patch words = reason.Page (page_in words)
reason_of above keyword.Cue words = reason.Page (record_page_in words)
reason_of above keyword.Group words = reason.Page (record_page_in words)
reason_of above keyword.Sub words = reason.Page (record_page_in words)
reason_of above keyword.Unknown words = unknown_under above
reason_of above _ words = secondary_under above

-- why a line below these is skipped, where it is
abbrev pub reason_below : List Words → Words → Reason
reason_below above l = reason_of (heading_below above) (keyword_in l) (operands l)

-- the reason in words
abbrev pub reason_text : Reason → List ℕ
reason_text reason.UnknownKeyword = codes "unknown keyword"
reason_text reason.MakersRecord = codes "of a maker's record"
reason_text (reason.Page page) = codes "of page " ++ decimal page
reason_text reason.UnknownClear = codes "an unknown CLEAR"
reason_text reason.SkippedRecord = codes "of a record that is skipped"
reason_text reason.NoRecord = codes "of no record"
