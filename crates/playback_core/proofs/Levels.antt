-- The levels after moves are those after the starts that the moves make, and never turn back.
use Rattle.playback_core.proofs.Terms.{◌≡◌, ℕ, ◌-◌, ◌*◌, ◌≤◌, List, [], ◌∷◌, inl, refl, arith, map}
use Rattle.playback_core.proofs.Terms.{get-entries, level_in, Tables, level_after, IsTowards}
use Rattle.playback_core.proofs.Terms.{split_fade_towards, Move, start_of, cue_at, up_rate, down_rate}
use Rattle.playback_core.proofs.Terms.{playback_level, playback_target}

pub level_after-map : (show : Tables) (moves : List Move) (channel moment : ℕ)
    → level_after (map (start_of show) moves) channel moment
    ≡ playback_level show moves channel moment
level_after-map show [] channel moment = refl
level_after-map show (move ∷ older) channel moment =
    rw (
      level_after-map show older channel move.moment,
      get-entries (cue_at show move.cue).levels channel,
    ) refl

-- as time passes, a channel goes towards its target
pub playback_level_towards : (show : Tables) (moves : List Move) (channel x y : ℕ) → x ≤ y
    → IsTowards (playback_level show moves channel x) (playback_target show moves channel)
    (playback_level show moves channel y)
playback_level_towards show [] channel x y le = inl (omega arith, omega arith)
playback_level_towards show (move ∷ older) channel x y le =
    split_fade_towards (playback_level show older channel move.moment)
    (255 * level_in (cue_at show move.cue).levels channel) (up_rate show move)
    (down_rate show move) (x - move.moment) (y - move.moment) (omega arith)
