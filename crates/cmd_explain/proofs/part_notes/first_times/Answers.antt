use Rattle.cmd_explain.proofs.Terms.{◌∙◌, ◌++◌, ◌∷◌, ◌+◌, sym, ap, drop, first_times, part_of}
use Rattle.cmd_explain.proofs.PartLists.{first_of, of_cue}
use Rattle.cmd_explain.proofs.part_notes.first_times.Goals as goal

pub returns-then-part-cue : goal.returns-then-part-cue
returns-then-part-cue c =
    let cue = c.args.cue in
    let parts = c.args.parts.now in
    let i = c.loop-part.part-index in
    let p = c.part-item.result in
    sym (ap first_times
    (first_of cue parts i p c.loop-part-test.true c.part-item.is c.if-part-cue.true
    ∙ ap (λ ps. ps ++ part_of p ∷ of_cue cue (drop (i + 1) parts)) c.loop-part.invariant))
