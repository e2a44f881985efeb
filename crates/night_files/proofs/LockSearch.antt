-- A lock that is looked for in the lines of the list.
use Rattle.std.proofs.Common.{◌≡◌, ℕ, ◌+◌, Bool, true, false, List, [], ◌∷◌, refl}
use Rattle.std.specs.Prelude.{Option, Some, None, option_and_then, if◌then◌else◌}
use Rattle.std.specs.List.{find}
use Rattle.ascii_text.specs.Text.{numbered_from}
use Rattle.night_files.specs.LockLists.{is_lock_of, process_in}

-- the process in the first of these lines that is of the lock
abbrev pub found : List ℕ → List (ℕ × List ℕ) → Option ℕ
found node [] = None
found node (line ∷ lines) = if is_lock_of node line.1 then process_in line.1 else found node lines

one_more : (node line : List ℕ) (n : ℕ) (lines : List (List ℕ)) (is : Bool)
    → found node (numbered_from (n + 1) lines)
    ≡ option_and_then process_in (find (is_lock_of node) lines)
    → (if is then process_in line else found node (numbered_from (n + 1) lines))
    ≡ option_and_then process_in (if is then Some line else find (is_lock_of node) lines)
one_more node line n lines true rest = refl
one_more node line n lines false rest = rest

pub numbered : (node : List ℕ) (n : ℕ) (lines : List (List ℕ))
    → found node (numbered_from n lines)
    ≡ option_and_then process_in (find (is_lock_of node) lines)
numbered node n [] = refl
numbered node n (line ∷ lines) =
    one_more node line n lines (is_lock_of node line) (numbered node (n + 1) lines)
