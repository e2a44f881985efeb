-- What a console of a rehearsal and its link keep, against the console's history.
-- Of use inside the crate: what its public calls answer is said without these.
use Rattle.std.specs.Prelude.{◌≡◌, ℕ, ◌+◌, false, List, [], ◌∷◌, take}
use Rattle.fade_core.specs.Level.{Start}
use Rattle.desk_core.specs.Played.{Act}
use Rattle.console.specs.Stands as console
use Rattle.console.specs.Streams.{Production}
use Rattle.wire_world.specs.Happened.{packets_of}
use Rattle.wire_world.specs.declared.stage.Stage.{Stage}
use Rattle.wire_world.specs.Sends.{packet_run}
use Rattle.wire_world.specs.Shelves.{IsRest, gone_of, shelf_packets}

-- the link tells: it had room for each packet
abbrev pub LinkTells : {F : Type 0} → Stage F → Type 0
LinkTells {F} stage = stage.link.full ≡ false

-- the console stands for its history, the link is empty, and where it tells, what is kept of each
-- universe is the rest of the packets of its stream, up to the last that an event delivers
pub record StageStands {F : Type 0} (fader_stands_for : F → List Start → Type 0) (stage : Stage F)
    (p : Production) (history : List Act) : Type 0 where
  pub console_stands : console.StandsFor fader_stands_for p stage.console history
  pub link_empty : stage.link.rows ≡ []
  pub packets_kept : LinkTells stage → (universe : ℕ)
      → IsRest (gone_of stage.shelves.items universe) (shelf_packets stage.shelves.items universe)
      (take (stage.last + 1) (packet_run p.source universe 0 (packets_of p history universe)))

-- a stage stands for some history of a production
abbrev pub HasHistory : {F : Type 0} → (F → List Start → Type 0) → Stage F → Type 0
HasHistory fader_stands_for stage = (p : Production) × (history : List Act)
    × StageStands fader_stands_for stage p history

-- this holds of each history that a stage stands for, and of its production
abbrev pub OfEach : {F : Type 0} → (F → List Start → Type 0) → Stage F
    → (Production → List Act → Type 0) → Type 0
OfEach fader_stands_for stage fact = (p : Production) (history : List Act)
    → StageStands fader_stands_for stage p history → fact p history

-- an act leads from one stage to another: the new one stands for each history of the old one, and
-- the act behind it
abbrev pub Leads : {F : Type 0} → (F → List Start → Type 0) → Act → Stage F → Stage F → Type 0
Leads fader_stands_for act old new = OfEach fader_stands_for old
    (λ p history. StageStands fader_stands_for new p (act ∷ history))
