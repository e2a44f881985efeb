use Rattle.std.proofs.Common.{◌∙◌, sym, ap, is_some, rules}
use Rattle.cmd_show.specs.Texts.{IsLookText}
use Rattle.cmd_show.specs.Faults.{LookFails}
use Rattle.cmd_show.proofs.Shows.{cue_is_there, of_cue, output_failed}
use Rattle.cmd_show.proofs.runs.look.Goals as goal

pub returns-in_err-write-clause-reads : goal.returns-in_err-write-clause-reads
returns-in_err-write-clause-reads g c = record {
  faultless = search rules;
  fault = output_failed c.from_residual-in_err-write.result
      (LookFails c.args.show.now c.args.cue) c.from_residual-in_err-write.ensures.1 (
        c.in_ok-loaded.ensures.faultless,
        cue_is_there c.args.show.now c.in_ok-loaded.loaded.show c.args.cue _
            c.in_ok-loaded.ensures.show
            (ap is_some (sym c.cue.ensures ∙ c.in-Some.is)),
      );
  too_long = search rules;
}

pub returns-clause-prints : goal.returns-clause-prints
returns-clause-prints g c = record {
  told = search rules;
  text = λ tells. (
    c.as_slice.result.now,
    of_cue c.args.show.now c.args.cue (λ t levels patch. IsLookText levels patch c.args.cid t) _ _
        c.in_ok-loaded.loaded.show c.in-Some.look c.in_ok-loaded.ensures.show
        (sym c.cue.ensures ∙ c.in-Some.is)
        c.as_slice.ensures.value c.in_ok-text.ensures,
    c.in_ok-write.ensures.ok tells,
  );
}

pub returns-clause-there : goal.returns-clause-there
returns-clause-there g c = cue_is_there c.args.show.now c.in_ok-loaded.loaded.show c.args.cue _
    c.in_ok-loaded.ensures.show
    (ap is_some (sym c.cue.ensures ∙ c.in-Some.is))
