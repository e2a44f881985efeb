use Rattle.cmd_cues.proofs.Terms.{◌≡◌, ◌++◌, codes, take, items_text, master_object, label_by}
use Rattle.cmd_cues.proofs.Terms.{record_in}
use Rattle.cmd_cues.proofs.json.push_masters.Given as goal

abbrev pub invariant-loop-place : goal.invariant-loop-place
invariant-loop-place l =
    l.text.items
    ≡ (l.fn.text.items ++ codes "[")
    ++ items_text (master_object (λ n. label_by l.labels.lines.items (record_in l.of n)))
    (take l.place l.masters)
