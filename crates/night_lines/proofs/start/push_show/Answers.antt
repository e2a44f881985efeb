use Rattle.std.proofs.Common.{◌≡◌, ◌++◌, ◌∷◌, ◌∙◌, [], ap}
use Rattle.night_lines.specs.Contents.{contents_line}
use Rattle.night_lines.specs.Lines.{lines_of}
use Rattle.night_lines.proofs.Told.{behind, seeming}
use Rattle.night_lines.proofs.start.push_show.Goals as goal

pub returns-then-show-eq0-clause-lines : goal.returns-then-show-eq0-clause-lines
returns-then-show-eq0-clause-lines c = λ tells.
    let show = c.args.show.now in
    let line = c.in-Some.line in
    let contents = contents_line show.counts show.skipped show.notes in
    let is : c.as_bytes.result.now ≡ contents = c.as_bytes.ensures.value ∙ c.as_str.ensures.value
    ∙ c.contents_line-contents.ensures in
    behind _ _ _ (c.as_bytes.result.now ∷ []) (line.now ∷ []) (c.push-2.ensures.line tells)
    (c.push.ensures.line (c.push-2.ensures.told tells))
    ∙ ap (λ text. lines_of c.args.lines.now ++ text ∷ line.now ∷ []) is
    ∙ ap (λ lines. lines_of c.args.lines.now ++ contents ∷ lines)
    (seeming (λ one. one.now) line show.seeming show.counts.cues c.in-Some.is
    c.if-show-eq0.true)
