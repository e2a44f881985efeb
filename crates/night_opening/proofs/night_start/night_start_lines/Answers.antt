use Rattle.std.proofs.Common.{subst}
use Rattle.night_opening.specs.NightStarts.{IsStartWith}
use Rattle.night_opening.proofs.night_start.night_start_lines.Goals as goal

pub returns-in-Ok-clause-start : goal.returns-in-Ok-clause-start
returns-in-Ok-clause-start c =
    let night = c.args.night.now in
    let known = c.in_ok-known.known in
    let start = c.night_start.result in (
      start,
      record {
        show = known.loaded.show;
        weight = known.weight;
        of_text = c.in_ok-known.ensures.known;
        told = subst (λ skipped. IsStartWith night known.loaded.show skipped known.weight.notes
            c.args.found.now start) c.in_ok-known.ensures.skipped c.night_start.ensures.start;
      },
      c.in-Ok.ensures,
    )
