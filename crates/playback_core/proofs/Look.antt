-- The levels of a cue, as the look that a fader is given.
use Rattle.playback_core.proofs.Terms.{ℕ, ◌≤◌, IsTrue, arith, get_or, All, is_sorted, entries_sorted}
use Rattle.playback_core.proofs.Terms.{nat_cmp, nat_tests, get_or-map, length-map, is_channel}
use Rattle.playback_core.proofs.Terms.{HasChannels, LevelMap, to_true}
use Rattle.std.specs.FinMap as map

pub is_sorted-entries : (levels : LevelMap) → IsTrue (is_sorted nat_cmp (map.entries levels))
is_sorted-entries levels = to_true (entries_sorted levels)

pub channels_in_range : (levels : LevelMap) → HasChannels levels
    → All (λ pair. (1 ≤ pair.0) × (pair.0 ≤ 4096)) (map.entries levels)
channels_in_range levels all = λ k d lt.
    let is : IsTrue (is_channel (get_or (map.entries levels) k d).0) =
    rw (get_or-map (λ e. e.0) (map.entries levels) k d d.0 lt) at (all k d.0 (rw length-map lt)) in
    (grind (arith, nat_tests), grind (arith, nat_tests))

pub channel_range : (channel : ℕ) → IsTrue (is_channel channel) → (1 ≤ channel) × (channel ≤ 4096)
channel_range channel is = (grind (arith, nat_tests), grind (arith, nat_tests))
