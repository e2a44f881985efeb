use Rattle.std.proofs.Common.{◌+◌, ◌<◌, arith, refl, vec_len}
use Rattle.std.proofs.lemmas.Grind.{common_steps}
use Rattle.line_queue.proofs.Accounting.{none_of, taken_more}
use Rattle.line_queue.proofs.queue.LineQueue.let_go.Goals as goal

pub returns-clause-stands : goal.returns-clause-stands
returns-clause-stands g c = λ tape given stands.
    let old = c.args.self.now in
    let some : 0 < vec_len old.waiting = grind (arith, common_steps) in
    let alive = none_of old.failure _ old.over some in
    c.tell_gap.ensures.stands _ given (taken_more old _ tape given
    (record { alive = alive; notice = refl; failure = refl }) c.args.count c.requires.within
    c.remove_front.ensures.items c.saturating_add-self.ensures refl refl stands (tape.writes + 1))
