use Rattle.cmd_explain.proofs.Terms.{◌≡◌, take, dark_cues, is_marked}
use Rattle.cmd_explain.proofs.show_notes.dark_cues.Given as goal

abbrev pub invariant-loop-n : goal.invariant-loop-n
invariant-loop-n l =
    l.dark.items ≡ dark_cues (is_marked l.patched) l.show.cues (take l.n-index l.cues)
