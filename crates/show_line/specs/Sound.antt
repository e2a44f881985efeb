-- What holds of every statement that a line says: its numbers are in their ranges.
use Rattle.std.specs.Prelude.{ℕ, IsTrue, All}
use Rattle.show_core.specs.Numbers.{is_cue_number, is_group, is_sub, is_channel}
use Rattle.show_core.specs.Cues.{IsTimeInRange}
use Rattle.show_core.specs.Builders.{can_patch}
use Rattle.show_line.specs.declared.statement.Record.{Record}
use Rattle.show_line.specs.declared.statement.Record.TheVariants as record_of
use Rattle.show_line.specs.declared.statement.Statement.{Statement}
use Rattle.show_line.specs.declared.statement.Statement.TheVariants.{Opens, Levels, SetsTime}
use Rattle.show_line.specs.declared.statement.Statement.TheVariants.{Patches}
use Rattle.show_line.specs.declared.statement.Statement.TheVariants.{Faulty}
use Rattle.show_line.specs.declared.triples.Triple.{Triple}

-- the number of a record is in its range
abbrev pub IsRecordInRange : Record → Type 0
IsRecordInRange (record_of.Cue n) = IsTrue (is_cue_number n)
IsRecordInRange (record_of.Group n) = IsTrue (is_group n)
IsRecordInRange (record_of.Sub n) = IsTrue (is_sub n)

-- the channel of a pair is in its range
abbrev pub IsPairInRange : ℕ × ℕ → Type 0
IsPairInRange pair = IsTrue (is_channel pair.0)

-- a dimmer that there is, and a channel, or 0
abbrev pub IsTripleInRange : Triple → Type 0
IsTripleInRange triple = IsTrue (can_patch triple.dimmer triple.channel)

-- the numbers of a statement are in their ranges
abbrev pub IsSound : Statement → Type 0
IsSound (Opens which) = IsRecordInRange which
IsSound (Levels which pairs) = All IsPairInRange pairs
IsSound (SetsTime n time) = IsTimeInRange time
IsSound (Patches triples) = All IsTripleInRange triples
IsSound _ = Unit {0}

-- the statement is no fault
abbrev pub IsFaultless : Statement → Type 0
IsFaultless (Faulty fault) = ⊥
IsFaultless _ = Unit {0}
