use Rattle.std.proofs.Common.{◌≡◌, ◌++◌, ◌∷◌, ◌∙◌, [], ap, sym}
use Rattle.night_lines.specs.Records.{main_line, take_line}
use Rattle.night_lines.specs.Starts.{closing_lines}
use Rattle.night_lines.specs.Lines.{lines_of}
use Rattle.night_lines.proofs.Told.{behind}
use Rattle.night_lines.proofs.start.push_end.Goals as goal

pub returns-in-Some-clause-lines : goal.returns-in-Some-clause-lines
returns-in-Some-clause-lines c = λ tells.
    let before = lines_of c.args.lines.now in
    let first = c.as_bytes.result.now in
    let second = c.as_bytes-in-Some.result.now in
    let main = main_line c.in-Some.main in
    let is_main : first ≡ main = c.as_bytes.ensures.value ∙ c.as_str.ensures.value
    ∙ c.main_line.ensures in
    let is_take : second ≡ take_line = c.as_bytes-in-Some.ensures.value ∙ c.take_line.ensures in
    behind _ _ _ (first ∷ []) (second ∷ []) (c.push-in-Some.ensures.line tells)
    (c.push.ensures.line (c.push-in-Some.ensures.told tells))
    ∙ ap (λ line. before ++ line ∷ second ∷ []) is_main
    ∙ ap (λ line. before ++ main ∷ line ∷ []) is_take
    ∙ ap (λ one. before ++ closing_lines one c.args.is_interruptible) (sym c.in-Some.is)
