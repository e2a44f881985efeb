-- How a queue hands on what waits, and how much it asks of its pipe for that.
use Rattle.std.specs.Prelude.{◌≡◌, ◌+◌, ◌-◌, ◌*◌, ◌≤◌, ◌⊎◌, ℕ, List, [], ◌∷◌, true}
use Rattle.line_queue.specs.Pipes.{PipeTape}
use Rattle.line_queue.specs.Stands.{HasRoom, Keeps, TakesMore, bytes_of, dropped_in, notice_in}
use Rattle.line_queue.specs.Stands.{waiting_in}
use Rattle.line_queue.specs.declared.queue.LineQueue.{LineQueue}

-- at most so many writes, and a wait of so many milliseconds at most before each and once more
pub record AsksAtMost (parts milliseconds : ℕ) (old new : PipeTape) : Type 0 where
  pub no_fewer : old.writes ≤ new.writes
  pub few : new.writes ≤ old.writes + parts
  pub short : new.wait ≤ old.wait + milliseconds * (new.writes + 1 - old.writes)

-- nothing waits any more, the pipe takes nothing, or it was written to so often
abbrev pub IsDone : {P : Type 0} → ℕ → LineQueue P → PipeTape → PipeTape → Type 0
IsDone parts queue old new =
    (waiting_in queue ≡ []) ⊎ ((new.is_full ≡ true) ⊎ (new.writes ≡ old.writes + parts))

-- behind a line that was taken: nothing waits any more, the pipe takes nothing, or it was written
-- to at least so often
abbrev pub IsHandedOn : {P : Type 0} → ℕ → LineQueue P → PipeTape → PipeTape → Type 0
IsHandedOn parts queue old new =
    (waiting_in queue ≡ []) ⊎ ((new.is_full ≡ true) ⊎ (old.writes + parts ≤ new.writes))

-- a queue stands for these lines too now, and asked its pipe at most so much. Where there was room
-- for them, they are kept
pub record Takes {P : Type 0} (tells : P → Type 0) (tape : P → PipeTape)
    (lines : List (List ℕ)) (parts milliseconds : ℕ) (old new : LineQueue P) : Type 0 where
  pub told : tells new.pipe → tells old.pipe
  pub notice : notice_in new ≡ notice_in old
  pub stands : tells new.pipe → TakesMore lines old (tape old.pipe) new (tape new.pipe)
  pub asks : tells new.pipe → AsksAtMost parts milliseconds (tape old.pipe) (tape new.pipe)
  pub kept : tells new.pipe → HasRoom old (bytes_of lines)
      → Keeps (bytes_of lines) old (tape old.pipe) new (tape new.pipe)

-- it handed on what waits, as far as that could be: no line was dropped, and where nothing waits
-- nothing is done
pub record HandsOn {P : Type 0} (tells : P → Type 0) (tape : P → PipeTape)
    (parts milliseconds : ℕ) (old new : LineQueue P) : Type 0 where
  pub takes : Takes tells tape [] parts milliseconds old new
  pub done : tells new.pipe → IsDone parts new (tape old.pipe) (tape new.pipe)
  pub no_drop : dropped_in new ≤ dropped_in old
  pub empty : waiting_in old ≡ [] → new ≡ old

-- it took a line, and handed on what waits
pub record Puts {P : Type 0} (tells : P → Type 0) (tape : P → PipeTape) (line : List ℕ)
    (old new : LineQueue P) : Type 0 where
  pub takes : Takes tells tape (line ∷ []) 32 0 old new
  pub handed : tells new.pipe → IsHandedOn 16 new (tape old.pipe) (tape new.pipe)
