use Rattle.std.proofs.Common.{◌∙◌, rules}
use Rattle.cmd_show.proofs.Shows.{check_of}
use Rattle.cmd_show.proofs.runs.check.Goals as goal

pub returns-clause-prints : goal.returns-clause-prints
returns-clause-prints g c = record {
  told = search rules;
  text = λ tells.
      let loaded = c.in_ok-loaded.loaded in
      let given = c.in_ok-loaded.ensures in
      let text = c.as_bytes.result.now in (
        text,
        check_of c.args.show.now text loaded.lines loaded.skipped loaded.show given.show given.lines
            given.skipped
            (c.as_bytes.ensures.value ∙ c.as_str.ensures.value ∙ c.in_ok-text.ensures),
        c.in_ok-write.ensures.ok tells,
      );
}
