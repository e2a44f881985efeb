use Rattle.std.proofs.Common.{◌≡◌, ◌<◌, ℕ, codes}
use Rattle.std.specs.Prelude.{slice_index}
use Rattle.night_record.specs.Head.{shape}
use Rattle.night_record.proofs.read.has_form.Given as goal

-- the places so far have the form
abbrev pub invariant-loop-place : goal.invariant-loop-place
invariant-loop-place l = (k : ℕ) → k < l.place
    → shape (slice_index l.started k) ≡ slice_index (codes "0000-00-00T00:00:00.000Z") k
