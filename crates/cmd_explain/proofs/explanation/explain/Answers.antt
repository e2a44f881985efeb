use Rattle.cmd_explain.proofs.Terms.{subst, sym, IsTextOf}
use Rattle.cmd_explain.proofs.WholeText.{its_text}
use Rattle.cmd_explain.proofs.explanation.explain.Goals as goal

pub returns-clause-text : goal.returns-clause-text
returns-clause-text g c = λ tells.
    let given = c.in-Ok.ensures in
    let loaded = c.in-Ok.loaded in (
      c.as_slice.result.now,
      its_text c.args.show.now c.as_slice.result.now loaded.lines loaded.show given.show given.lines
          (subst (IsTextOf c.args.show.now loaded.lines loaded.show) (sym c.as_slice.ensures.value)
          c.in_ok-text.ensures),
      c.in_ok-write.ensures.ok tells,
    )
