-- What stands in an output: lines, and notices in place of lines.
use Rattle.std.specs.Prelude.{◌≡◌, ℕ, ◌^◌, ◌-◌, min, suc, List, [], ◌∷◌, Bool, true, false}
use Rattle.std.specs.Prelude.{count_by, length}
use Rattle.std.specs.List.{flat_map}
use Rattle.line_queue.specs.Notices.{notice_text}
use Rattle.line_queue.specs.declared.notice.Notice.{Notice}

-- a line that stands there whole, or a gap: the first line that was dropped and those behind it
pub data QueueEntry : Type 0 where
  Whole : List ℕ → QueueEntry
  Gap : List ℕ → List (List ℕ) → QueueEntry

-- a number as it is counted, up to 2^64 - 1
abbrev pub capped_count : ℕ → ℕ
capped_count n = min n (2 ^ 64 - 1)

-- the lines of an entry
abbrev pub entry_lines : QueueEntry → List (List ℕ)
entry_lines (Whole line) = line ∷ []
entry_lines (Gap first others) = first ∷ others

-- its text: the line, or the notice with the number of lines
abbrev pub text_in : Notice → QueueEntry → List ℕ
text_in _ (Whole line) = line
text_in notice (Gap first others) = notice_text notice (capped_count (suc (length others)))

abbrev pub is_gap : QueueEntry → Bool
is_gap (Whole _) = false
is_gap (Gap _ _) = true

abbrev pub queue_lines : List QueueEntry → List (List ℕ)
queue_lines entries = flat_map entry_lines entries

abbrev pub queue_text : Notice → List QueueEntry → List ℕ
queue_text notice entries = flat_map (text_in notice) entries

abbrev pub gaps_of : List QueueEntry → ℕ
gaps_of entries = count_by is_gap entries

-- a text is that of these lines: each of them, in their order, stands there whole, or is counted in
-- a notice at its place
pub record IsQueueText (notice : Notice) (lines : List (List ℕ)) (text : List ℕ) : Type 0 where
  pub entries : List QueueEntry
  pub in_order : lines ≡ queue_lines entries
  pub whole : text ≡ queue_text notice entries
