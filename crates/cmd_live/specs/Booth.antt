-- What a booth does, as contracts see it where it tells.
use Rattle.std.specs.Prelude.{ℕ, ◌+◌, ◌≤◌, List, ◌∷◌, take}
use Rattle.devices.specs.Send.{Send}
use Rattle.devices.specs.Tape.{Tape}
use Rattle.live_input.specs.Night.{Happening, came, closed}
use Rattle.live_input.specs.declared.reason.Reason.{Reason}
use Rattle.cmd_live.specs.declared.booth.Heard.{Heard}
use Rattle.cmd_live.specs.declared.booth.Heard.TheVariants.{Bytes, End, Nothing}

-- what is told beside answers: that a typed line was refused, by its text and why; that keys were
-- left out of one
pub data BoothNote : Type 0 where
  refused : List ℕ → Reason → BoothNote
  keys : BoothNote

-- that it recorded a line, or that it showed one, each with what the link had been offered by then
pub data Deed : Type 0 where
  kept_at : List Send → Deed
  shown_at : List Send → Deed

-- the moments at which its clock was set, the newest first; what happened to the input of its
-- night, the newest first; the lines that it recorded; what it showed; what it told, the newest
-- first; until which moments it waited for what is typed, the newest first; how many looks at the
-- clock and waits failed; and in which order it recorded and showed, the newest first
pub record BoothState : Type 0 where
  pub begun : List ℕ
  pub happened : List Happening
  pub kept : Tape ℕ
  pub shown : Tape ℕ
  pub told : List BoothNote
  pub waited : List ℕ
  pub faults : ℕ
  pub deeds : List Deed

abbrev pub begins : ℕ → BoothState → BoothState
begins moment state = record state { begun = moment ∷ state.begun }

abbrev pub happens : Happening → BoothState → BoothState
happens happening state = record state { happened = happening ∷ state.happened }

abbrev pub is_told : BoothNote → BoothState → BoothState
is_told told state = record state { told = told ∷ state.told }

abbrev pub waits_until : ℕ → BoothState → BoothState
waits_until due state = record state { waited = due ∷ state.waited }

-- it recorded a line when the link had been offered this, or could not
abbrev pub keeps : Tape ℕ → List Send → BoothState → BoothState
keeps kept offered state = record state { kept = kept; deeds = kept_at offered ∷ state.deeds }

-- it showed a line then, or could not
abbrev pub shows : Tape ℕ → List Send → BoothState → BoothState
shows text offered state = record state { shown = text; deeds = shown_at offered ∷ state.deeds }

-- the clock or a wait failed
abbrev pub with_fault : BoothState → BoothState
with_fault state = record state { faults = state.faults + 1 }

-- what was heard: so many bytes at the front of the block, or the end of the input
abbrev pub with_input : Heard → List ℕ → BoothState → BoothState
with_input (Bytes count) block state = happens (came (take count block)) state
with_input (End ends) block state = happens (closed ends) state
with_input Nothing block state = state

-- a block has at most 4096 bytes
abbrev pub HeardFits : Heard → Type 0
HeardFits (Bytes count) = count ≤ 4096
HeardFits _ = Unit {0}
