-- The events of `rehearse` as events of a script, of which all definitions and laws speak.
use Rattle.std.specs.Prelude.{List, map}
use Rattle.desk_core.specs.declared.instruction.Instruction.TheVariants.{Plain}
use Rattle.wire_world.specs.declared.event.Event.{Event}
use Rattle.wire_world.specs.declared.event.What.{What}
use Rattle.wire_world.specs.declared.event.What.TheVariants as event
use Rattle.wire_world.specs.declared.happening.Happening.{Happening}
use Rattle.wire_world.specs.declared.happening.Occurrence.{Occurrence}
use Rattle.wire_world.specs.declared.happening.Occurrence.TheVariants.{Order, Tick, Deliver, Stray}
use Rattle.wire_world.specs.declared.happening.Occurrence.TheVariants.{Show}

-- the same happens
abbrev pub occurrence : What → Occurrence
occurrence (event.Order console command) = Order console (Plain command)
occurrence (event.Tick console) = Tick console
occurrence (event.Deliver receiver console universe k) = Deliver receiver console universe k
occurrence (event.Stray receiver from to) = Stray receiver from to
occurrence (event.Show receiver) = Show receiver

-- at the same moment
abbrev pub happening : Event → Happening
happening event = record { moment = event.moment; what = occurrence event.what }

-- so for each of the events
abbrev pub happenings : List Event → List Happening
happenings events = map happening events
