-- What a statement does to a show, by the effects of the builders.
-- Of use inside the crate: what its public calls answer is said without these.
use Rattle.std.specs.Prelude.{ℕ, if◌then◌else◌, IsTrue, List, fold, Option, Some, None}
use Rattle.std.specs.FinMap as maps
use Rattle.show_reader.specs.Terms.{PatchMap, Tables, LineFault, Record, Cue, Group, Sub, Cues}
use Rattle.show_reader.specs.Terms.{Groups, Subs, Patch, Cleared, All, Only, Statement, Opens}
use Rattle.show_reader.specs.Terms.{Levels, SetsTime, Patches, Clears, Faulty, Triple}
use Rattle.show_core.specs.Builders.{with_cue, opened_in, with_levels, with_all_listed, with_time}
use Rattle.show_core.specs.Builders.{patched_with, can_open}
use Rattle.show_line.specs.declared.fault.LineFault.TheVariants.{Limit}
use Rattle.show_reader.specs.Keys.{has_record}

-- with the record opened
abbrev pub with_record : Tables → Record → Tables
with_record show (Cue n) = record show { cues = with_cue show.cues n }
with_record show (Group n) = record show { groups = opened_in show.groups n }
with_record show (Sub n) = record show { subs = opened_in show.subs n }

-- with the levels of pairs in the record, one after the other
abbrev pub with_pairs : Tables → Record → List (ℕ × ℕ) → Tables
with_pairs show (Cue n) pairs = record show { cues = with_levels show.cues n pairs }
with_pairs show (Group n) pairs = record show { groups = with_all_listed show.groups n pairs }
with_pairs show (Sub n) pairs = record show { subs = with_all_listed show.subs n pairs }

-- with the dimmers of triples, one after the other
abbrev pub with_triples : PatchMap → List Triple → PatchMap
with_triples patch triples =
    fold (λ older t. patched_with older t.dimmer t.channel t.level) patch triples

-- with tables emptied
abbrev pub without_tables : Cleared → Tables → Tables
without_tables All show =
    record { cues = maps.empty; subs = maps.empty; groups = maps.empty; patch = maps.empty }
without_tables (Only Cues) show = record show { cues = maps.empty }
without_tables (Only Groups) show = record show { groups = maps.empty }
without_tables (Only Subs) show = record show { subs = maps.empty }
without_tables (Only Patch) show = record show { patch = maps.empty }

-- the show after a statement
abbrev pub show_after : Statement → Tables → Tables
show_after (Opens r) show = with_record show r
show_after (Levels r pairs) show = with_pairs show r pairs
show_after (SetsTime n time) show = record show { cues = with_time show.cues n time }
show_after (Patches triples) show = record show { patch = with_triples show.patch triples }
show_after (Clears what) show = without_tables what show
show_after _ show = show

-- why a show refuses a statement, if it does
abbrev pub refused_by : Tables → Statement → Option LineFault
refused_by show (Faulty f) = Some f
refused_by show (Opens (Cue n)) = if can_open show.cues n then None else Some Limit
refused_by show _ = None

-- what a statement needs of a show: its record is there
abbrev pub HasOwner : Tables → Statement → Type 0
HasOwner show (Levels r pairs) = IsTrue (has_record show r)
HasOwner show (SetsTime n time) = IsTrue (has_record show (Cue n))
HasOwner show _ = Unit {0}
