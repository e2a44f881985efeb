-- Why a job did not end well, and what is told of it.
use Rattle.std.specs.Prelude.{◌≡◌, ℕ, List, [], ◌∷◌, ◌++◌, Option, Some, None, codes}
use Rattle.std.specs.declared.io.ErrorKind.{ErrorKind}
use Rattle.cmd_faults.specs.declared.fault.RunFault.{RunFault}
use Rattle.cmd_faults.specs.declared.fault.RunFault.TheVariants as run
use Rattle.remarks.specs.Remarks.{of_device, remark_of}
use Rattle.remarks.specs.TextLines.{of_line, setup_remark, show_remark}
use Rattle.remarks.specs.declared.failure.Failure.{Failure}
use Rattle.remarks.specs.declared.failure.LostPacket.{LostPacket}

-- a failure has this fault, and this remark
pub record Fails (why : RunFault) (text : List ℕ) (failure : Failure) : Type 0 where
  pub fault : failure.fault ≡ why
  pub remark : failure.remark.items ≡ text

-- the lines of a night
abbrev pub input_rule : List ℕ
input_rule = codes "MOMENT and go, back, goto CUE, goto CUE in TIME, sub N LEVEL, "
    ++ codes "group N LEVEL, master LEVEL, end or tick"

-- the lines of a watch
abbrev pub watch_rule : List ℕ
watch_rule = codes "MOMENT and a datagram in hex, or MOMENT alone, in at most 3072 bytes"

-- the lines of a script
abbrev pub script_rule : List ℕ
script_rule = codes "console BASE PRIORITY UUID, receiver UNIVERSE, "
    ++ codes "or MOMENT and do, tick, deliver, stray or slots"

-- standard output was refused for a reason, or else standard input failed
abbrev pub of_standard : Option ErrorKind → List ℕ
of_standard None = remark_of (codes "standard input could not be read" ∷ [])
of_standard (Some kind) = of_device (codes "standard output") kind

-- a run over this show
abbrev pub of_run : RunFault → List ℕ → Option ErrorKind → List ℕ
of_run (run.Show fault) show output = show_remark fault show
of_run run.NoCue show output = remark_of (codes "the show has no cue of this number" ∷ [])
of_run run.Base show output =
    remark_of (codes "the base, and the show's universes after it, are 1 to 63999" ∷ [])
of_run (run.Line line) show output = remark_of (input_rule ∷ [])
of_run run.Device show output = of_standard output
of_run _ show output = []

-- a night over this show; of packets that were lost, the last is told of
abbrev pub of_night : RunFault → List ℕ → Option LostPacket → Option ErrorKind → List ℕ
of_night (run.Lost count) show (Some lost) output = of_device lost.address.now lost.kind
of_night fault show lost output = of_run fault show output

-- another console has the lock of a night's CID, in a file
abbrev pub of_cid_lock : List ℕ → List ℕ
of_cid_lock file = remark_of
    (codes "another console on this machine sends under this CID, by " ∷ file ∷ [])

-- a watch
abbrev pub of_watch : RunFault → Option ErrorKind → List ℕ
of_watch (run.Line line) output = remark_of (watch_rule ∷ [])
of_watch fault output = of_run fault [] output

-- a rehearsal of this script over this show
abbrev pub of_rehearsal : RunFault → List ℕ → List ℕ → Option ErrorKind → List ℕ
of_rehearsal (run.Line line) show script output = of_line line script script_rule
of_rehearsal run.Script show script output =
    remark_of (codes "a script has at most 16777216 bytes" ∷ [])
of_rehearsal (run.Setup fault) show script output = setup_remark fault
of_rehearsal fault show script output = of_run fault show output
