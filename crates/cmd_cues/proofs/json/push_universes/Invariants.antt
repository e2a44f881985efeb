use Rattle.cmd_cues.proofs.Terms.{◌≡◌, ◌++◌, codes, take, items_text, universe_object}
use Rattle.cmd_cues.proofs.json.push_universes.Given as goal

abbrev pub invariant-loop-place : goal.invariant-loop-place
invariant-loop-place l =
    l.text.items
    ≡ (l.fn.text.items ++ codes "[")
    ++ items_text (universe_object l.show.patch) (take l.place l.ordinals)
