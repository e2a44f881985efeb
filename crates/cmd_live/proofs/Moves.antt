-- The lines of moves.
use Rattle.std.proofs.Common.{◌≡◌, ap, ◌∙◌, arith, List, [], ◌∷◌, ◌++◌, length}
use Rattle.std.proofs.Common.{length-append, append-nil}
use Rattle.std.specs.Prelude.{◌-◌, flat_map, reverse, take}
use Rattle.std.proofs.Math.Seq.{take-append_seam}
use Rattle.std.proofs.lemmas.Grind.{flat_map-append}
use Rattle.std.proofs.lemmas.List.{reverse-append}
use Rattle.playback_core.specs.Played.{Move}
use Rattle.console.specs.CueLine.{cue_line}
use Rattle.cmd_live.specs.Shown.{cue_lines, moves_behind}

-- what came behind moves is what stands in front of them
pub made_is : (newer moves : List Move) → moves_behind moves (newer ++ moves) ≡ newer
made_is newer moves =
    let count : length (newer ++ moves) - length moves ≡ length newer =
    omega (arith, length-append newer moves) in
    ap (λ n. take n (newer ++ moves)) count ∙ take-append_seam newer moves

pub made_none : (moves : List Move) → moves_behind moves moves ≡ []
made_none moves = made_is [] moves

pub one_line : (move : Move) (newer : List Move)
    → cue_lines (move ∷ newer) ≡ cue_lines newer ++ cue_line move.moment move.cue
one_line move newer =
    ap (flat_map (λ (m : Move). cue_line m.moment m.cue)) (reverse-append (move ∷ []) newer)
    ∙ flat_map-append (λ (m : Move). cue_line m.moment m.cue) (reverse newer) (move ∷ [])
    ∙ ap (λ text. cue_lines newer ++ text) (append-nil (cue_line move.moment move.cue))
