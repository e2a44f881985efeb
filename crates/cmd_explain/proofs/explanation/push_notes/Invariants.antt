use Rattle.cmd_explain.proofs.Terms.{◌≡◌, ◌++◌, flat_map, map, take, note_line, display_text}
use Rattle.cmd_explain.proofs.explanation.push_notes.Given as goal

abbrev pub invariant-loop-note : goal.invariant-loop-note
invariant-loop-note l =
    l.text.items
    ≡ l.fn.text.items
    ++ flat_map note_line (map (λ note. display_text note.items) (take l.note-index l.notes))
