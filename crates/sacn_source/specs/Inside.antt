-- The fields of a pace, seen as what contracts see.
-- Of use inside the crate: what its public calls answer is said without these.
use Rattle.sacn_source.specs.declared.pace.Pace.TheInside.{Inside as PaceFields}
use Rattle.sacn_source.specs.Kept.{Pace}

abbrev pub pace_view : PaceFields → Pace
pace_view pace = record {
  sent = pace.sent;
  repeats = pace.repeats;
  last_sent = pace.last_sent;
  earliest = pace.earliest;
  ended = pace.ended;
}
