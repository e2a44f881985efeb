-- In which part two heads differ.
use Rattle.std.specs.Prelude.{◌==◌, Option, Some, None, if◌then◌else◌, bytes_eq}
use Rattle.night_record.specs.declared.head.RecordHead.{RecordHead}
use Rattle.night_record.specs.declared.difference.Difference.{Difference}
use Rattle.night_record.specs.declared.difference.Difference.TheVariants.{Show, Cid, Priority, Base}
use Rattle.night_record.specs.declared.difference.Difference.TheVariants.{Name}

-- the first part that differs; when each was begun is no part of it
abbrev pub difference : RecordHead → RecordHead → Option Difference
difference a b = if bytes_eq a.show b.show
    then (if bytes_eq a.cid b.cid
    then (if a.priority == b.priority
    then (if a.base == b.base
    then (if bytes_eq a.name b.name then None else Some Name)
    else Some Base) else Some Priority) else Some Cid) else Some Show
