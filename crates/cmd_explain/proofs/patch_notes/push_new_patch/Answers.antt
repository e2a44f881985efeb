use Rattle.cmd_explain.proofs.Terms.{◌∙◌, ◌++◌, List, ℕ, ap, decimal}
use Rattle.std.specs.Prelude.{codes}
use Rattle.cmd_explain.proofs.Pieces.{joins}
use Rattle.cmd_explain.proofs.patch_notes.push_new_patch.Goals as goal

pub returns : goal.returns
returns c =
    let old : List ℕ = c.args.out.now.items in
    let a : List ℕ = codes "dimmer " in
    let b : List ℕ = decimal c.args.triple.dimmer in
    let d : List ℕ = codes " is patched to channel " in
    let e : List ℕ = decimal c.args.triple.channel in
    joins old (a ++ b ++ d) e
    (joins old (a ++ b) d
    (joins old a b c.in_ok-extend_from_slice.ensures.items
    (c.in_ok-push_number.ensures
    ∙ ap (λ n. c.extend_from_slice.new.self.items ++ decimal n) c.from.ensures))
    c.in_ok-extend_from_slice-2.ensures.items)
    (c.in_ok-push_number-2.ensures
    ∙ ap (λ n. c.extend_from_slice-2.new.self.items ++ decimal n) c.from-2.ensures)
