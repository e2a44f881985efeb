use Rattle.std.proofs.Common.{◌≡◌, false, All}
use Rattle.show_line.specs.Sound.{IsTripleInRange}
use Rattle.show_line.specs.declared.statement.Statement.TheVariants.{Patches}
use Rattle.show_reader.specs.Reading.{grows}
use Rattle.show_reader.specs.Applied.{show_after}
use Rattle.show_reader.specs.Reads.{show_of_draft, IsDraft, IsSettled}
use Rattle.show_reader.proofs.draft.Draft.patch.Given as goal

abbrev pub invariant-loop-triple : goal.invariant-loop-triple
invariant-loop-triple l = record {
  drafted : IsDraft l.self;
  sound : All IsTripleInRange l.triple-iterator;
  left : grows (Patches l.fn.triples) ≡ false → grows (Patches l.triple-iterator) ≡ false;
  settled : IsSettled l.initial.self → grows (Patches l.fn.triples) ≡ false → IsSettled l.self;
  put : show_after (Patches l.fn.triples) (show_of_draft l.initial.self)
      ≡ show_after (Patches l.triple-iterator) (show_of_draft l.self);
}
