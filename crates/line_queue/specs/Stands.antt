-- What a queue keeps, against the lines that it was given.
use Rattle.std.specs.Prelude.{◌≡◌, ◌+◌, ◌≤◌, ℕ, List, [], ◌++◌, length, Bool, Option, None}
use Rattle.std.specs.Prelude.{◌||◌, ◌∷◌, not, nat_lt, nat_eq}
use Rattle.std.specs.declared.io.ErrorKind.{ErrorKind}
use Rattle.line_queue.specs.Entries.{QueueEntry, capped_count, gaps_of, queue_lines, queue_text}
use Rattle.line_queue.specs.Pipes.{PipeTape, lasting_failure}
use Rattle.line_queue.specs.declared.notice.Notice.{Notice}
use Rattle.line_queue.specs.declared.queue.LineQueue.{LineQueue}

-- the bytes that wait in a queue
abbrev pub waiting_in : {P : Type 0} → LineQueue P → List ℕ
waiting_in queue = queue.waiting.items

-- why a write failed behind which nothing is written any more
abbrev pub failure_in : {P : Type 0} → LineQueue P → Option ErrorKind
failure_in queue = queue.failure

-- the words of its notices
abbrev pub notice_in : {P : Type 0} → LineQueue P → Notice
notice_in queue = queue.notice

-- how many bytes it handed on
abbrev pub bytes_taken : {P : Type 0} → LineQueue P → ℕ
bytes_taken queue = queue.taken

-- how many notices it put in place of lines
abbrev pub gaps_in : {P : Type 0} → LineQueue P → ℕ
gaps_in queue = queue.gaps

-- how many lines were dropped, and are not told of
abbrev pub dropped_in : {P : Type 0} → LineQueue P → ℕ
dropped_in queue = queue.dropped

-- A queue accounts for the lines that it was given, by the tape of its pipe. The lines are those of
-- entries, and behind them those that were dropped and are not told of. What the pipe took, and
-- behind it what is left, is the text of the entries. As long as no write failed, what is left
-- waits, and the lines untold are counted.
pub record Accounts {P : Type 0} (queue : LineQueue P) (tape : PipeTape)
    (given : List (List ℕ)) : Type 0 where
  pub entries : List QueueEntry
  pub untold : List (List ℕ)
  pub left : List ℕ
  pub in_order : given ≡ queue_lines entries ++ untold
  pub whole : tape.taken ++ left ≡ queue_text (notice_in queue) entries
  pub waits : failure_in queue ≡ None
      → (waiting_in queue ≡ left) × (dropped_in queue ≡ capped_count (length untold))
  pub fault : failure_in queue ≡ lasting_failure tape.fault
  pub count : bytes_taken queue ≡ capped_count (length tape.taken)
  pub gaps : gaps_in queue ≡ capped_count (gaps_of entries)

-- a queue stands for the lines that it accounts for: of those that were dropped it is told as soon
-- as nothing waits
pub record StandsFor {P : Type 0} (queue : LineQueue P) (tape : PipeTape)
    (given : List (List ℕ)) : Type 0 where
  pub account : Accounts queue tape given
  pub told : failure_in queue ≡ None → waiting_in queue ≡ [] → dropped_in queue ≡ 0

-- whatever lines a queue stood for, it stands for these too now
abbrev pub TakesMore : {P : Type 0} → List (List ℕ) → LineQueue P → PipeTape → LineQueue P
    → PipeTape → Type 0
TakesMore lines old before new after = (given : List (List ℕ)) → StandsFor old before given
    → StandsFor new after (given ++ lines)

-- no write failed, no line was dropped that is not told of, and behind what waits there is room for
-- the line among 65,536 bytes
pub record HasRoom {P : Type 0} (queue : LineQueue P) (line : List ℕ) : Type 0 where
  pub no_failure : failure_in queue ≡ None
  pub none_dropped : dropped_in queue ≡ 0
  pub fits : length (waiting_in queue) + length line ≤ 65536

-- the bytes of lines
abbrev pub bytes_of : List (List ℕ) → List ℕ
bytes_of [] = []
bytes_of (line ∷ []) = line
bytes_of (line ∷ lines) = line ++ bytes_of lines

-- A queue keeps these bytes, put behind what waited: what the pipe took since, and behind it what
-- is left, is what waited and these bytes. As long as no write failed, what is left waits, and no
-- line was dropped
pub record Keeps {P : Type 0} (bytes : List ℕ) (old : LineQueue P) (before : PipeTape)
    (new : LineQueue P) (after : PipeTape) : Type 0 where
  pub left : List ℕ
  pub whole : after.taken ++ left ≡ before.taken ++ (waiting_in old ++ bytes)
  pub waits : failure_in new ≡ None → (waiting_in new ≡ left) × (dropped_in new ≡ 0)

-- whether bytes wait, or lines were dropped and it is not told yet
abbrev pub is_late : {P : Type 0} → LineQueue P → Bool
is_late queue = not (nat_eq (length (waiting_in queue)) 0) || nat_lt 0 (dropped_in queue)
