-- What a rehearsal that fails leaves, where standard output may hold lines back.
use Rattle.std.proofs.Common.{ℕ, List, Err, inl, inr}
use Rattle.devices.specs.Tape.{Tape}
use Rattle.cmd_faults.specs.declared.fault.RunFault.{RunFault}
use Rattle.cmd_faults.specs.declared.fault.RunFault.TheVariants as run
use Rattle.cmd_rehearse.specs.Printed.{PrintsAll}
use Rattle.stream_jobs.specs.Rehearsals.{HandsOnAll}

-- as it was printed
pub fails_alike : (fault : RunFault) (HandedOn : Type 0) (Are : List (List ℕ) → Type 0)
    (before after : Tape ℕ) → PrintsAll {X = Unit} (Err fault) Are before after
    → HandsOnAll (Err fault) HandedOn Are before after
fails_alike (run.Show fault) HandedOn Are before after prints = prints
fails_alike run.NoCue HandedOn Are before after prints = prints
fails_alike run.Base HandedOn Are before after prints = prints
fails_alike (run.Line line) HandedOn Are before after prints = prints
fails_alike run.Script HandedOn Are before after prints = prints
fails_alike (run.Setup fault) HandedOn Are before after prints = prints
fails_alike run.Device HandedOn Are before after prints = inl prints
fails_alike (run.Lost count) HandedOn Are before after prints = prints
fails_alike run.Memory HandedOn Are before after prints = prints
