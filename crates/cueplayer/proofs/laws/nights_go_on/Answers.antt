use Rattle.cueplayer.proofs.Nights.{restart_headline}
use Rattle.cueplayer.proofs.Restarting.{breaks_plays, plays_go_on}
use Rattle.cueplayer.proofs.laws.nights_go_on.Goals as goal

pub returns-clause-history : goal.returns-clause-history
returns-clause-history c = plays_go_on

pub returns-clause-stream : goal.returns-clause-stream
returns-clause-stream c = breaks_plays

pub returns-clause-headline : goal.returns-clause-headline
returns-clause-headline c = restart_headline
