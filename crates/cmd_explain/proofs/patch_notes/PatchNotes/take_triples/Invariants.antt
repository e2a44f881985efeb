use Rattle.cmd_explain.proofs.Terms.{◌≡◌, ◌++◌, sheet_after_triples, sheet_of, triple_notes}
use Rattle.cmd_explain.proofs.patch_notes.PatchNotes.take_triples.Given as goal

-- the triples that are left make of what there is what all make of what was there
abbrev pub invariant-loop-triple : goal.invariant-loop-triple
invariant-loop-triple l = record {
  sheet : sheet_after_triples l.number l.triple-iterator (sheet_of l.self)
      ≡ sheet_after_triples l.number l.fn.triples (sheet_of l.initial.self);
  notes : l.self.notes.items ++ triple_notes l.number l.triple-iterator (sheet_of l.self)
      ≡ l.initial.self.notes.items
      ++ triple_notes l.number l.fn.triples (sheet_of l.initial.self);
}
