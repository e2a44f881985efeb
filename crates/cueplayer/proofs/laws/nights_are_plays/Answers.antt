use Rattle.cueplayer.proofs.Nights.{night_headline, nights_plays, nights_typed}
use Rattle.cueplayer.proofs.laws.nights_are_plays.Goals as goal

pub returns-clause-plays : goal.returns-clause-plays
returns-clause-plays c = nights_plays

pub returns-clause-typed : goal.returns-clause-typed
returns-clause-typed c = nights_typed

pub returns-clause-headline : goal.returns-clause-headline
returns-clause-headline c = night_headline
