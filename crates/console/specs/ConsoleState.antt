-- What a console keeps.
use Rattle.std.specs.Prelude.{List}
use Rattle.desk_core.specs.DeskState.{DeskState}
use Rattle.sacn_source.specs.Kept.{Lane}

-- the desk, and the stream of each universe
pub record ConsoleState (F : Type 0) : Type 0 where
  pub desk : DeskState F
  pub sender : List Lane
