use Rattle.cmd_cues.proofs.Terms.{◌∙◌, rules}
use Rattle.cmd_cues.proofs.OneShow.{table_of}
use Rattle.cmd_cues.proofs.listing.cues.Goals as goal

pub returns-clause-prints : goal.returns-clause-prints
returns-clause-prints g c = record {
  told = search rules;
  text = λ tells.
      let given = c.in_ok-loaded.ensures in (
        c.as_slice.result.now,
        table_of c.args.show.now c.as_slice.result.now c.in_ok-loaded.loaded.lines
            c.in_ok-loaded.loaded.show given.show given.lines
            (c.as_slice.ensures.value ∙ c.in_ok-text.ensures),
        c.in_ok-write.ensures.ok tells,
      );
}
