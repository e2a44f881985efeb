use Rattle.night_opening.specs.Opening.{playable}
use Rattle.cueplayer.proofs.live_night.take_over.Goals as goal

pub lead-requires-clause-stands : goal.lead-requires-clause-stands
lead-requires-clause-stands c = playable _ c.stand_by.new.night c.in_ok-ended.ensures
