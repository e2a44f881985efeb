-- The lines of universes, one after the other.
use Rattle.std.proofs.Common.{◌≡◌, ◌∙◌, sym, ap, ℕ, ◌<◌, ◌+◌}
use Rattle.std.proofs.Common.{List, [], ◌++◌, flat_map, take, length, get_or}
use Rattle.std.proofs.lemmas.List.{take_more, flat_map_more}
use Rattle.show_core.specs.Tables.{LevelMap, PatchMap}
use Rattle.show_core.specs.Readers.{look_frame}
use Rattle.cmd_show.specs.Slots.{universe_lines, ordinal_lines}

-- the lines of the next of some universes, with the levels of a cue
pub universe_added : (levels : LevelMap) (patch : PatchMap) (base : ℕ) (ordinals : List ℕ) (i : ℕ)
    (text slots longer : List ℕ)
    → i < length ordinals
    → text ≡ flat_map (ordinal_lines levels patch base) (take i ordinals)
    → slots ≡ look_frame levels patch (get_or ordinals i 0)
    → longer ≡ text ++ universe_lines (base + get_or ordinals i 0) slots
    → longer ≡ flat_map (ordinal_lines levels patch base) (take (i + 1) ordinals)
universe_added levels patch base ordinals i text slots longer within so_far full added =
    let k = get_or ordinals i 0 in
    let lines = ordinal_lines levels patch base in
    added ∙ ap (λ s. text ++ universe_lines (base + k) s) full ∙ ap (λ t. t ++ lines k) so_far
    ∙ flat_map_more lines [] (take i ordinals) k
    ∙ ap (flat_map lines) (sym (take_more ordinals i 0 within))
