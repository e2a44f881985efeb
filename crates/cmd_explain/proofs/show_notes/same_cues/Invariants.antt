use Rattle.cmd_explain.proofs.Terms.{◌≡◌, ◌++◌, None, drop, same_cues}
use Rattle.cmd_explain.proofs.show_notes.same_cues.Given as goal

-- all are those that were found, and those among the cues that are left
abbrev pub invariant-loop-n : goal.invariant-loop-n
invariant-loop-n l =
    same_cues l.show.cues None l.cues
    ≡ l.same.items ++ same_cues l.show.cues l.before (drop l.n-index l.cues)
