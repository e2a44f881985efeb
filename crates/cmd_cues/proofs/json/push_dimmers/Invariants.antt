use Rattle.cmd_cues.proofs.Terms.{◌≡◌, ◌++◌, codes, take, items_text, dimmer_object}
use Rattle.cmd_cues.proofs.json.push_dimmers.Given as goal

abbrev pub invariant-loop-place : goal.invariant-loop-place
invariant-loop-place l =
    l.text.items
    ≡ (l.fn.text.items ++ codes "[") ++ items_text dimmer_object (take l.place l.patch)
