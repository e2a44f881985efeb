use Rattle.cmd_explain.proofs.Terms.{◌≡◌, ◌∙◌, ◌++◌, map, flat_map, ap, rules, encoding_notes}
use Rattle.cmd_explain.proofs.Terms.{text_line, display_text}
use Rattle.cmd_explain.proofs.OneLine.{one_line_each}
use Rattle.cmd_explain.proofs.explanation.faults_text.Goals as goal

pub returns : goal.returns
returns c =
    let lines = c.as_slice.result.now in
    let front : c.push_encoding.new.out.items ≡ encoding_notes c.args.show.now = search rules in (
      map (λ line. display_text line.items) lines,
      one_line_each (λ line. line.items) lines,
      c.in_ok-push_lines.ensures
          ∙ ap (λ t. t ++ flat_map text_line (map (λ line. display_text line.items) lines)) front,
    )
