use Rattle.cmd_explain.proofs.Terms.{◌≡◌, ◌∙◌, ◌++◌, List, ℕ, reverse, take, ap, rules, lines_of}
use Rattle.cmd_explain.proofs.Terms.{encoding_notes, weighty_line_notes, line_count}
use Rattle.cmd_explain.proofs.weight.weigh.Goals as goal

pub returns : goal.returns
returns c =
    let show = c.args.loaded.now.show in
    let lines : List (List ℕ) =
    reverse (take c.args.loaded.now.lines (lines_of c.args.text.now)) in
    let front : c.push_encoding.new.out.items ≡ encoding_notes c.args.text.now = search rules in
    record {
      notes =
          c.line_count.ensures
          ∙ ap line_count (c.as_slice.ensures.value
          ∙ c.in_ok-push_weighty.ensures lines c.in_ok-of_lines.ensures
          ∙ ap (λ t. t ++ weighty_line_notes show lines) front);
      unknown_lines = c.in_ok-of_lines.ensures.unknown_lines;
    }
