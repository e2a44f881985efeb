use Rattle.cmd_cues.proofs.Terms.{◌≡◌, take, option_map, Text, Comment, last_label_by}
use Rattle.cmd_cues.proofs.labels.Labels.candidates.Given as goal

abbrev pub invariant-loop-line : goal.invariant-loop-line
invariant-loop-line l = record {
  text : option_map (λ b. b.now) l.candidates.text
      ≡ last_label_by l.of Text (take l.line-index l.self.lines.items);
  comment : option_map (λ b. b.now) l.candidates.comment
      ≡ last_label_by l.of Comment (take l.line-index l.self.lines.items);
}
