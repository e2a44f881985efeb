use Rattle.cmd_cues.proofs.Terms.{◌≡◌, ◌++◌, codes, take, items_text, cue_object, label_by}
use Rattle.cmd_cues.proofs.json.push_cues.Given as goal

abbrev pub invariant-loop-place : goal.invariant-loop-place
invariant-loop-place l =
    l.text.items
    ≡ (l.fn.text.items ++ codes "[")
    ++ items_text (cue_object (label_by l.labels.lines.items)) (take l.place l.cues)
