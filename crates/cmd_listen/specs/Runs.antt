-- A watch over a whole input: what it reads, and what its output takes.
use Rattle.std.specs.Prelude.{◌≡◌, ◌≢◌, ◌⊎◌, ◌≤◌, ◌<◌, ◌+◌, ◌++◌, ◌∷◌, ℕ, List, length, Result, Ok}
use Rattle.std.specs.Prelude.{Err}
use Rattle.devices.specs.Tape.{Tape, with_failure, with_more}
use Rattle.cmd_faults.specs.declared.fault.RunFault.{RunFault}
use Rattle.cmd_faults.specs.declared.fault.RunFault.TheVariants as run
use Rattle.cmd_listen.specs.declared.fault.WatchFault.{WatchFault}
use Rattle.cmd_listen.specs.declared.fault.WatchFault.TheVariants as early
use Rattle.ascii_text.specs.Lines.{Cut, with_last_lf, cut_of}
use Rattle.cmd_listen.specs.Lines.{AreWatchLines}
use Rattle.cmd_listen.specs.Reading.{malformed, spelled_in}
use Rattle.cmd_listen.specs.Watching.{told_at, watch_text}

-- the next line is refused at this byte: it is line 4,000,000,001; it is longer than 3,072 bytes;
-- or the byte ends it, and it is malformed
pub data IsRefusedByWatch (cut : Cut) (byte : ℕ) : Type 0 where
  late : length cut.lines ≡ 4000000000 → IsRefusedByWatch cut byte
  long : length cut.rest ≡ 3072 → byte ≢ 10 → IsRefusedByWatch cut byte
  malformed_line : byte ≡ 10 → spelled_in cut.rest ≡ malformed → IsRefusedByWatch cut byte

-- the byte ends a line: it is none after line 4,000,000,000, and it has at most 3,072 bytes
pub record EndsLine (cut : Cut) (byte : ℕ) : Type 0 where
  pub ends : byte ≡ 10
  pub few : length cut.lines < 4000000000
  pub short : length cut.rest ≤ 3072

-- why the byte behind these ends the watch: the next line is refused; or it is not, and what is
-- told at it finds no memory, or the output fails
abbrev pub EndsWatch : WatchFault → Cut → ℕ → Type 0
EndsWatch (early.Line n) cut byte = (n ≡ length cut.lines + 1) × IsRefusedByWatch cut byte
EndsWatch early.Memory cut byte = EndsLine cut byte
EndsWatch early.Device cut byte = EndsLine cut byte × (spelled_in cut.rest ≢ malformed)

-- what is left then: the output took what was told at the lines before, and at Device one write
-- failed
abbrev pub WatchLeaves : WatchFault → List ℕ → List (List ℕ) → Tape ℕ → Tape ℕ → Type 0
WatchLeaves early.Device universes lines before after =
    after ≡ with_failure (with_more before (told_at universes lines))
WatchLeaves _ universes lines before after = after ≡ with_more before (told_at universes lines)

-- the input was read to its end without a failed read, no line was refused, and the output took all
-- that is told of the lines
pub record WatchesAll (universes : List ℕ) (ended : Type 0) (fed feeds before after : Tape ℕ)
    : Type 0 where
  pub bytes : List ℕ
  pub read : feeds ≡ with_more fed bytes
  pub at_end : ended
  pub fine : AreWatchLines (cut_of (with_last_lf bytes)).lines
  pub told : after ≡ with_more before (watch_text universes (cut_of (with_last_lf bytes)).lines)

-- a read failed, and the output took what was told at each line that LF had ended before it
pub record WatchFailsToRead (universes : List ℕ) (fault : WatchFault)
    (fed feeds before after : Tape ℕ)
    : Type 0 where
  pub fault_is : fault ≡ early.Device
  pub bytes : List ℕ
  pub read : feeds ≡ with_failure (with_more fed bytes)
  pub fine : AreWatchLines (cut_of bytes).lines
  pub told : after ≡ with_more before (told_at universes (cut_of bytes).lines)

-- a byte of the input ends the watch, and no read failed; at the end of the input a last line
-- without LF has one
pub record WatchEndsAtByte (universes : List ℕ) (fault : WatchFault) (ended : Type 0)
    (fed feeds before after : Tape ℕ) : Type 0 where
  pub bytes : List ℕ
  pub read : feeds ≡ with_more fed bytes
  pub front : List ℕ
  pub byte : ℕ
  pub rest : List ℕ
  pub bytes_are : (bytes ≡ front ++ byte ∷ rest)
      ⊎ (ended × (with_last_lf bytes ≡ front ++ byte ∷ rest))
  pub fine : AreWatchLines (cut_of front).lines
  pub ends : EndsWatch fault (cut_of front) byte
  pub leaves : WatchLeaves fault universes (cut_of front).lines before after

-- no line ended the watch, and what is told at the end found no memory, or the output failed
pub record EndsLast (universes : List ℕ) (fault : WatchFault) (ended : Type 0)
    (fed feeds before after : Tape ℕ) : Type 0 where
  pub no_line : (n : ℕ) → fault ≢ early.Line n
  pub bytes : List ℕ
  pub read : feeds ≡ with_more fed bytes
  pub at_end : ended
  pub fine : AreWatchLines (cut_of (with_last_lf bytes)).lines
  pub leaves : WatchLeaves fault universes (cut_of (with_last_lf bytes)).lines before after

-- a watch found no memory before it read
pub record EndsFirst (fault : WatchFault) (fed feeds before after : Tape ℕ) : Type 0 where
  pub fault_is : fault ≡ early.Memory
  pub read : feeds ≡ fed
  pub took : after ≡ before

-- why a watch ends early, and what it leaves
abbrev pub WatchEndsEarly : List ℕ → WatchFault → Type 0 → Tape ℕ → Tape ℕ → Tape ℕ → Tape ℕ
    → Type 0
WatchEndsEarly universes fault ended fed feeds before after =
    WatchFailsToRead universes fault fed feeds before after
    ⊎ (WatchEndsAtByte universes fault ended fed feeds before after
    ⊎ EndsLast universes fault ended fed feeds before after)

-- a watch, by its answer
abbrev pub Watches : {X : Type 0} → List ℕ → Result X RunFault → Type 0 → Tape ℕ → Tape ℕ → Tape ℕ
    → Tape ℕ → Type 0
Watches universes (Ok x) ended fed feeds before after =
    WatchesAll universes ended fed feeds before after
Watches universes (Err (run.Line n)) ended fed feeds before after =
    WatchEndsEarly universes (early.Line n) ended fed feeds before after
Watches universes (Err run.Device) ended fed feeds before after =
    WatchEndsEarly universes early.Device ended fed feeds before after
Watches universes (Err run.Memory) ended fed feeds before after =
    EndsFirst early.Memory fed feeds before after
    ⊎ WatchEndsEarly universes early.Memory ended fed feeds before after
Watches universes (Err fault) ended fed feeds before after = ⊥
