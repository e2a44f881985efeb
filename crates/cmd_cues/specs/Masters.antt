-- Submasters and groups: as records, and above their lines.
-- Of use inside the crate: what its public calls answer is said without these.
use Rattle.std.specs.Prelude.{ℕ, List, codes}
use Rattle.show_line.specs.declared.statement.Record.{Record}
use Rattle.show_line.specs.declared.statement.Record.TheVariants.{Group, Sub}
use Rattle.cmd_cues.specs.declared.cue_rows.Masters.{Masters}
use Rattle.cmd_cues.specs.declared.cue_rows.Masters.TheVariants.{Groups, Subs}

abbrev pub record_in : Masters → ℕ → Record
record_in Subs n = Sub n
record_in Groups n = Group n

abbrev pub masters_head : Masters → List ℕ
masters_head Subs = codes "\nsubmaster  channels  label\n"
masters_head Groups = codes "\n    group  channels  label\n"
