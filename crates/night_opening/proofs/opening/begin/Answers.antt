use Rattle.std.proofs.lemmas.Result.{on_ok_weaker}
use Rattle.night_opening.proofs.opening.begin.Goals as goal

pub returns-in-Some-clause-playable : goal.returns-in-Some-clause-playable
returns-in-Some-clause-playable g c =
    let taken = c.requires.1 in
    on_ok_weaker c.begin_with.result
    (λ begins. ((taken.0, _, begins.stands taken.0 _ taken.1.stands), begins.none_lost))
    c.begin_with.ensures.begins
