use Rattle.playback_core.proofs.Terms.{sym, ◌∙◌, rules, unwrap_or}
use Rattle.playback_core.proofs.Found.{contains_key-cue_above}
use Rattle.playback_core.proofs.Due.{count_above-found}
use Rattle.playback_core.proofs.Places.{moved, still}
use Rattle.playback_core.proofs.place.Place.follow.Goals as goal

pub returns-then-not-is_due-clause-stays : goal.returns-then-not-is_due-clause-stays
returns-then-not-is_due-clause-stays c = λ moves stopped is.
    (is, still _ _ _ (sym c.is_due.ensures ∙ c.if-not-is_due.true) moves stopped is)

pub returns-clause-there : goal.returns-clause-there
returns-clause-there c =
    contains_key-cue_above c.args.show.now.cues (unwrap_or c.args.self.now.current 0) _
    (search rules)

pub returns-clause-fewer : goal.returns-clause-fewer
returns-clause-fewer c =
    rw c.at.ensures.current
    (count_above-found _ (unwrap_or c.args.self.now.current 0) _ (search rules))

pub returns-clause-moved : goal.returns-clause-moved
returns-clause-moved c =
    moved c.args.show.now c.args.moment c.args.self.now c.at.result c.in_ok-n.n c.in_ok-due.due
    (search rules) (sym c.is_due.ensures ∙ c.if-not-is_due.false) (search rules)
    c.at.ensures.current c.at.ensures.due
