-- The words of the crates below that this crate's definitions and proofs speak in.
pub use Rattle.show_core.specs.declared.cue.CueData.{CueData}
pub use Rattle.show_core.specs.Cues.{TimeName, TimeOf, time_named, time_in}
pub use Rattle.show_core.specs.Tables.{LevelMap, CueMap, MasterMap, PatchMap, Tables}
pub use Rattle.show_line.specs.declared.fault.LineFault.{LineFault}
pub use Rattle.show_line.specs.declared.statement.Record.{Record}
pub use Rattle.show_line.specs.declared.statement.Record.TheVariants.{Cue, Group, Sub}
pub use Rattle.show_line.specs.declared.statement.Table.{Table}
pub use Rattle.show_line.specs.declared.statement.Table.TheVariants.{Cues, Groups, Subs, Patch}
pub use Rattle.show_line.specs.declared.statement.Cleared.{Cleared}
pub use Rattle.show_line.specs.declared.statement.Cleared.TheVariants.{All, Only}
pub use Rattle.show_line.specs.declared.statement.Statement.{Statement}
pub use Rattle.show_line.specs.declared.statement.Statement.TheVariants.{Opens, Levels, SetsTime}
pub use Rattle.show_line.specs.declared.statement.Statement.TheVariants.{Patches, Clears}
pub use Rattle.show_line.specs.declared.statement.Statement.TheVariants.{Quiet, Skipped, Faulty}
pub use Rattle.show_line.specs.declared.triples.Triple.{Triple}
pub use Rattle.show_line.specs.Pairs.{Limits}
