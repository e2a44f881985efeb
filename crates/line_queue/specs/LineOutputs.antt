-- What becomes of an output for lines that may be closed.
use Rattle.std.specs.Prelude.{◌≡◌, ℕ, Bool, false, Option, Some, None}
use Rattle.line_queue.specs.Owed.{piped_bytes}
use Rattle.line_queue.specs.Stands.{bytes_taken, failure_in, is_late}
use Rattle.line_queue.specs.Watches.{look_at}
use Rattle.line_queue.specs.declared.queue.LineQueue.{LineQueue}
use Rattle.line_queue.specs.declared.watch.OutputLook.{OutputLook}

-- a closed output stays closed, and an open one open: its queue changes so
abbrev pub Changes : {P : Type 0} → (LineQueue P → LineQueue P → Type 0)
    → Option (LineQueue P) → Option (LineQueue P) → Type 0
Changes Does None new = new ≡ None
Changes {P} Does (Some old) new = (queue : LineQueue P) × (new ≡ Some queue) × Does old queue

-- how the output is: one that is closed has no failure, and is never late
abbrev pub look_in : {P : Type 0} → Option (LineQueue P) → OutputLook
look_in None = record { has_failed = false; is_late = false; gaps = 0 }
look_in (Some queue) = look_at queue

abbrev pub is_output_late : {P : Type 0} → Option (LineQueue P) → Bool
is_output_late None = false
is_output_late (Some queue) = is_late queue

-- how many bytes a writer of its file was given
abbrev pub piped_in : {P : Type 0} → Option (LineQueue P) → ℕ
piped_in None = 0
piped_in (Some queue) = piped_bytes (failure_in queue) (bytes_taken queue)
