-- The refusals of a playback and of masters, as the desk's.
use Rattle.playback_core.specs.declared.playback.NoMove.{NoMove}
use Rattle.playback_core.specs.declared.playback.NoMove.TheVariants as moves
use Rattle.master_core.specs.declared.fault.NoMaster.{NoMaster}
use Rattle.master_core.specs.declared.fault.NoMaster.TheVariants as masters
use Rattle.desk_core.specs.declared.answer.Refused.{Refused}
use Rattle.desk_core.specs.declared.answer.Refused.TheVariants.{AtEnd, AtStart, NoCue}
use Rattle.desk_core.specs.declared.answer.Refused.TheVariants.{NoSub, NoGroup}

abbrev pub refused_move : NoMove → Refused
refused_move moves.AtEnd = AtEnd
refused_move moves.AtStart = AtStart
refused_move moves.NoCue = NoCue

abbrev pub refused_master : NoMaster → Refused
refused_master masters.NoSub = NoSub
refused_master masters.NoGroup = NoGroup
