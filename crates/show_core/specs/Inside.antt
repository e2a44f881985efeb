-- The fields of a show, seen as its tables.
use Rattle.show_core.specs.declared.show.Show.TheInside.{Inside}
use Rattle.show_core.specs.Tables.{Tables}
use Rattle.show_core.specs.Readers.{IsInRange}

-- the four tables; the allocator is no part of what a show is
abbrev pub show_view : Inside → Tables
show_view s = record { cues = s.cues; subs = s.subs; groups = s.groups; patch = s.patch }

-- no number is outside its range
abbrev pub IsShow : Inside → Type 0
IsShow s = IsInRange (show_view s)
