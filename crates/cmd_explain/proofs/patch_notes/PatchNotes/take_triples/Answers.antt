use Rattle.cmd_explain.proofs.Terms.{◌≡◌, ◌∷◌, ◌++◌, List, ℕ, ap, ◌∙◌, append_assoc}
use Rattle.cmd_explain.proofs.Terms.{sheet_after_triples, sheet_of, triple_note, triple_notes}
use Rattle.cmd_explain.proofs.patch_notes.PatchNotes.take_triples.Goals as goal

pub loop-triple-preserved : goal.loop-triple-preserved
loop-triple-preserved c =
    let front : c.loop-triple.triple-iterator ≡ c.in-Some.triple ∷ c.next.new.self
    = c.in-Some.ensures.steps in
    let before = c.loop-triple.invariant in
    let taken = c.in_ok-take_triple.ensures in
    let rest = c.next.new.self in
    let old : List ℕ = c.loop-triple.self.notes.items in
    let told : List ℕ = triple_note c.args.number c.in-Some.triple
    (sheet_of c.loop-triple.self c.in-Some.triple.dimmer) in
    record {
      sheet =
          ap (sheet_after_triples c.args.number rest) taken.sheet ∙ rw front at before.sheet;
      notes =
          ap (λ n. n ++ triple_notes c.args.number rest (sheet_of c.take_triple.new.self))
          taken.notes
          ∙ append_assoc old told _
          ∙ ap (λ s. old ++ (told ++ triple_notes c.args.number rest s)) taken.sheet
          ∙ rw front at before.notes;
    }
