use Rattle.std.proofs.Common.{◌++◌, ◌∷◌, [], refl}
use Rattle.line_queue.proofs.Accounting.{dropped_more}
use Rattle.line_queue.proofs.queue.LineQueue.drop_line.Goals as goal

pub returns-clause-stands : goal.returns-clause-stands
returns-clause-stands g c = λ line tape given stands.
    c.tell_gap.ensures.stands tape (given ++ line ∷ []) (dropped_more c.args.self.now _ tape given
    (record { alive = c.requires; notice = refl; failure = refl }) line refl refl refl
    c.saturating_add-self.ensures stands)
