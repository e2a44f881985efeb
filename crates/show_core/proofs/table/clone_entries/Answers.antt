use Rattle.show_core.proofs.Terms.{◌++◌, ◌∷◌, [], take, sym, ap, ◌∙◌, take_more}
use Rattle.show_core.proofs.table.clone_entries.Goals as goal

pub loop-entry-preserved : goal.loop-entry-preserved
loop-entry-preserved g c =
    let es = c.args.entries.now in
    let i = c.loop-entry.entry-index in
    let p = c.entry-item.result in
    c.in_ok-push.ensures.items
    ∙ ap (λ v. c.loop-entry.copy.items ++ (p.0, v) ∷ []) c.in_ok-value.ensures
    ∙ ap (λ xs. xs ++ p ∷ []) c.loop-entry.invariant
    ∙ ap (λ x. take i es ++ x ∷ []) c.entry-item.is
    ∙ sym (take_more es i p c.loop-entry-test.true)
