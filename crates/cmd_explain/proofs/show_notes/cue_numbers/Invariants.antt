use Rattle.cmd_explain.proofs.Terms.{◌≡◌, ℕ, ◌++◌, List, length, map, CueData}
use Rattle.std.specs.FinMap as maps
use Rattle.cmd_explain.proofs.Ascending.{first_key}
use Rattle.cmd_explain.proofs.show_notes.cue_numbers.Given as goal

-- the entries are those whose numbers are listed, and those that are left
abbrev pub invariant-loop-cue : goal.invariant-loop-cue
invariant-loop-cue l = (done : List (ℕ × CueData)) × (left : List (ℕ × CueData))
    × record {
      all : maps.entries l.show.cues ≡ done ++ left;
      count : length done ≡ l._cue;
      next : l.next ≡ first_key left;
      numbers : l.numbers.items ≡ map (λ e. e.0) done;
    }
