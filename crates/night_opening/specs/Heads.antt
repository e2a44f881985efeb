-- The head of the record of a night that begins.
use Rattle.std.specs.Prelude.{◌≡◌, ◌==◌, ℕ, List, [], ◌∷◌, length, codes, nat_le}
use Rattle.std.specs.Prelude.{Option, Some, None, Result, Ok, Err, if◌then◌else◌}
use Rattle.sha2.specs.Sha256.{sha256}
use Rattle.cmd_faults.specs.declared.fault.RunFault.TheVariants as run
use Rattle.cmd_words.specs.Source.{source_name}
use Rattle.cmd_words.specs.declared.job.Night.{Night}
use Rattle.night_record.specs.declared.head.RecordHead.{RecordHead}
use Rattle.remarks.specs.Failures.{Fails}
use Rattle.remarks.specs.Remarks.{remark_of}
use Rattle.remarks.specs.declared.failure.Failure.{Failure}

-- a device failed, as these words tell, where there are some
abbrev pub TellsDevice : Option (List ℕ) → Failure → Type 0
TellsDevice None failure = ⊥
TellsDevice (Some words) failure = Fails run.Device (remark_of (words ∷ [])) failure

-- why what a clock says is no moment of a head
abbrev pub clock_fault : Option (List ℕ) → Option (List ℕ)
clock_fault None = Some (codes "the clock cannot be read")
clock_fault (Some text) =
    if length text == 24 then None else Some (codes "the clock is beyond the year 9999")

abbrev pub IsMoment : Option (List ℕ) → Result (List ℕ) Failure → Type 0
IsMoment clock (Ok moment) = (clock ≡ Some moment) × (clock_fault clock ≡ None)
IsMoment clock (Err failure) = TellsDevice (clock_fault clock) failure

-- who plays which show, since when
abbrev pub head_for : Night → List ℕ → List ℕ → List ℕ → RecordHead
head_for night show name started = record {
  show = sha256 show;
  cid = night.cid;
  priority = night.priority;
  base = night.base;
  name = name;
  started = started;
}

-- under this name
abbrev pub IsNamedHead : Night → List ℕ → List ℕ → Option (List ℕ) → Result RecordHead Failure
    → Type 0
IsNamedHead night show name clock (Ok head) =
    (head ≡ head_for night show name head.started) × IsMoment clock (Ok head.started)
IsNamedHead night show name clock (Err failure) = IsMoment clock (Err failure)

-- why a night has no head: its name has no room, or else the clock says no moment
abbrev pub head_fault : List ℕ → Option (List ℕ) → Option (List ℕ)
head_fault name clock =
    if nat_le (length name) 63 then clock_fault clock
    else Some (codes "the source name is too long")

-- the head of a night of this show, at what the clock says
abbrev pub IsHeadFor : Night → List ℕ → Option (List ℕ) → Result RecordHead Failure → Type 0
IsHeadFor night show clock (Ok head) =
    (head ≡ head_for night show (source_name night.name) head.started)
    × (clock ≡ Some head.started) × (head_fault (source_name night.name) clock ≡ None)
IsHeadFor night show clock (Err failure) =
    TellsDevice (head_fault (source_name night.name) clock) failure
