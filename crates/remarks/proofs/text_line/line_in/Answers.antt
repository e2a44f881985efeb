use Rattle.std.proofs.Common.{◌≡◌, ◌∙◌, ap, sym, take}
use Rattle.std.proofs.lemmas.Grind.{common_steps}
use Rattle.std.proofs.Common.{arith}
use Rattle.std.proofs.lemmas.Bool.Decides.{nat_tests}
use Rattle.ascii_text.specs.Text.{lines_of, numbered_from}
use Rattle.remarks.proofs.LineSearch.{found, numbered}
use Rattle.remarks.proofs.text_line.line_in.Goals as goal

pub loop-line-init : goal.loop-line-init
loop-line-init c =
    let lines = lines_of (take 16777217 c.args.text.now) in
    let given : c.into_iter-line-iterator.result ≡ numbered_from 1 lines
    = grind (arith, common_steps) in
    numbered c.args.number lines ∙ ap (found c.args.number) (sym given)

pub loop-line-preserved : goal.loop-line-preserved
loop-line-preserved c =
    let step = c.loop-line.invariant ∙ ap (found c.args.number) c.in-Some.ensures.steps in
    grind (arith, nat_tests, step)

pub returns : goal.returns
returns c =
    let end = c.loop-line.invariant ∙ ap (found c.args.number) c.in-None.ensures.steps.0 in
    grind (arith, end)
