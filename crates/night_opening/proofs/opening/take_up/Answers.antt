use Rattle.std.proofs.Common.{◌≡◌, ◌+◌, ap, arith, inr, length, subst}
use Rattle.std.specs.Prelude.{OnOk, Result, Ok, Err}
use Rattle.std.proofs.lemmas.Grind.{common_steps}
use Rattle.remarks.specs.Refusals.{Rejects, line_rule, unlike_line}
use Rattle.remarks.specs.TextLines.{of_line}
use Rattle.night_opening.proofs.RecordLines.{few_lines}
use Rattle.night_opening.proofs.opening.take_up.Goals as goal

always : {T E P : Type 0} (result : Result T E) → P → OnOk result P
always (Ok done) p = p
always (Err fault) p = tt

pub returns-in-Ok-clause-playable : goal.returns-in-Ok-clause-playable
returns-in-Ok-clause-playable g c =
    let taken = c.requires.1 in
    let goes = c.in-Ok.ensures.goes_on in
    always c.refuse_end.result
    ((taken.0, _, goes.stands taken.0 taken.1.lines taken.1.stands), goes.ready.none_lost)

pub returns-in-Err-clause-takes : goal.returns-in-Err-clause-takes
returns-in-Err-clause-takes g c =
    let taken = c.requires.1 in
    let first = c.in-Err.ensures.stops taken.0 taken.1.lines taken.1.stands taken.1.are_recalled in
    let few = few_lines first.front in
    let long = ap length first.text_is in
    let sum : c.saturating_add.result ≡ c.in-Err.line + 2
    = grind (
      arith,
      common_steps,
      c.saturating_add.ensures,
      first.number_is,
      few,
      long,
      c.type_inv.lines,
    ) in
    inr (record {
      number = c.in-Err.line;
      first = c.in-Err.ensures.stops;
      told = subst (λ n. Rejects (unlike_line n) (of_line n c.args.text.now line_rule)
          c.line.result) sum c.line.ensures;
    })
