use Rattle.std.proofs.Common.{◌≡◌, ◌∷◌, sym, ap, ◌∙◌, arith}
use Rattle.std.proofs.lemmas.List.Elements.{All-rest}
use Rattle.show_line.specs.Sound.{IsTripleInRange}
use Rattle.show_line.specs.declared.statement.Statement.TheVariants.{Patches}
use Rattle.show_reader.specs.Applied.{show_after}
use Rattle.show_reader.proofs.draft.Draft.patch.Goals as goal

pub loop-triple-preserved : goal.loop-triple-preserved
loop-triple-preserved c =
    let front : c.loop-triple.triple-iterator ≡ c.in-Some.triple ∷ c.next.new.self
    = c.in-Some.ensures.steps in
    let before = c.loop-triple.invariant in
    let patched = c.in_ok-patch_dimmer.ensures in
    record {
      drafted = patched.drafted;
      sound = All-rest IsTripleInRange _ _ _ front before.sound;
      left = λ none. let left = rw front at (before.left none) in grind (arith, left);
      settled = λ settled none.
          let left = rw front at (before.left none) in
          patched.settled (before.settled settled none) (grind (arith, left));
      put = rw front at before.put ∙ ap (show_after (Patches c.next.new.self)) (sym patched.ok);
    }
