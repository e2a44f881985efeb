use Rattle.std.proofs.Common.{◌∙◌, sym}
use Rattle.show_jobs.proofs.Seemings.{seems_so}
use Rattle.show_jobs.proofs.seeming.seeming.Goals as goal

pub returns-in-Ok : goal.returns-in-Ok
returns-in-Ok c =
    seems_so c.args.file.now c.in_ok-what.what.now c.in-Ok.loaded.show
    (sym c.in_ok-what.ensures) c.in-Ok.ensures.faultless c.in-Ok.ensures.show
    (sym c.counts.ensures.cues ∙ c.if-counts-eq0.true)
