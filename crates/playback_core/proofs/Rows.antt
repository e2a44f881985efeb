-- Moves and levels worked out by hand.
use Rattle.std.proofs.Common.{◌≡◌, ℕ, List, [], ◌∷◌, Some, None, refl}
use Rattle.std.specs.FinMap as map
use Rattle.std.specs.FinMap.{contains_key-keys}
use Rattle.show_core.specs.declared.cue.CueData.{CueData}
use Rattle.show_core.specs.Tables.{CueMap, Tables}
use Rattle.fade_core.specs.Level.{split_fade}
use Rattle.playback_core.specs.Played.{Move, go_target, back_target, goto_target, playback_level}
use Rattle.playback_core.specs.Played.{current_after, with_due}

-- of cues 1, 1.5 and 2, go takes each in turn and then none
go_back_goto-go : (cues : CueMap) → map.keys cues ≡ 1000 ∷ 1500 ∷ 2000 ∷ []
    → (go_target cues None ≡ Some 1000) × (go_target cues (Some 1000) ≡ Some 1500)
    × (go_target cues (Some 1500) ≡ Some 2000) × (go_target cues (Some 2000) ≡ None)
go_back_goto-go cues keys = (rw keys refl, rw keys refl, rw keys refl, rw keys refl)

-- back takes 1.5 after 2, and none after 1 or where none is current
go_back_goto-back : (cues : CueMap) → map.keys cues ≡ 1000 ∷ 1500 ∷ 2000 ∷ []
    → (back_target cues (Some 2000) ≡ Some 1500) × (back_target cues (Some 1000) ≡ None)
    × (back_target cues None ≡ None)
go_back_goto-back cues keys = (rw keys refl, rw keys refl, refl)

-- goto takes no cue between
go_back_goto-goto : (cues : CueMap) → map.keys cues ≡ 1000 ∷ 1500 ∷ 2000 ∷ []
    → goto_target cues 1750 ≡ None
go_back_goto-goto cues keys = rw (contains_key-keys cues 1750, keys) refl

-- cue 1 brings channel 1 to full over five seconds; cue 2 brings channel 2 to full over two, and
-- channel 1 out over four
record TwoCues (show : Tables) : Type 0 where
  first : CueData
  second : CueData
  is_first : map.get show.cues 1000 ≡ Some first
  is_second : map.get show.cues 2000 ≡ Some second
  first_lists_1 : map.get first.levels 1 ≡ Some 255
  first_lists_no_2 : map.get first.levels 2 ≡ None
  second_lists_no_1 : map.get second.levels 1 ≡ None
  second_lists_2 : map.get second.levels 2 ≡ Some 255
  first_up : first.up ≡ Some (record { time = 5000; delay = 0 })
  first_down : first.down ≡ None
  second_up : second.up ≡ Some (record { time = 2000; delay = 0 })
  second_down : second.down ≡ Some (record { time = 4000; delay = 0 })

abbrev first_at : ℕ → Move
first_at moment = record { cue = 1000; moment = moment; time = None }

abbrev second_at : ℕ → Move
second_at moment = record { cue = 2000; moment = moment; time = None }

split_crossfade : (show : Tables) → TwoCues show
    → playback_level show (second_at 10000 ∷ first_at 0 ∷ []) 1 11000 ≡ 48769
unfolding split_fade
split_crossfade show is = simp (
  is.is_first,
  is.is_second,
  is.first_lists_1,
  is.second_lists_no_1,
  is.first_up,
  is.first_down,
  is.second_up,
  is.second_down,
) refl

split_crossfade-2 : (show : Tables) → TwoCues show
    → playback_level show (second_at 10000 ∷ first_at 0 ∷ []) 2 11000 ≡ 32512
unfolding split_fade
split_crossfade-2 show is = simp (
  is.is_first,
  is.is_second,
  is.first_lists_no_2,
  is.second_lists_2,
  is.first_up,
  is.first_down,
  is.second_up,
  is.second_down,
) refl

goto_mid_fade : (show : Tables) → TwoCues show
    → playback_level show (first_at 11000 ∷ second_at 10000 ∷ first_at 0 ∷ []) 1 12000 ≡ 52020
unfolding split_fade
goto_mid_fade show is = simp (
  is.is_first,
  is.is_second,
  is.first_lists_1,
  is.second_lists_no_1,
  is.first_up,
  is.first_down,
  is.second_up,
  is.second_down,
) refl

goto_mid_fade-2 : (show : Tables) → TwoCues show
    → playback_level show (first_at 11000 ∷ second_at 10000 ∷ first_at 0 ∷ []) 2 12000 ≡ 26010
unfolding split_fade
goto_mid_fade-2 show is = simp (
  is.is_first,
  is.is_second,
  is.first_lists_no_2,
  is.second_lists_2,
  is.first_up,
  is.first_down,
  is.second_up,
  is.second_down,
) refl

-- moves of a time of their own
abbrev first_in : ℕ → ℕ → Move
first_in time moment = record { cue = 1000; moment = moment; time = Some time }

abbrev second_in : ℕ → ℕ → Move
second_in time moment = record { cue = 2000; moment = moment; time = Some time }

-- in no time channel 1 is at full at once
goto_in_zero : (show : Tables) → TwoCues show
    → playback_level show (first_in 0 0 ∷ []) 1 0 ≡ 65025
unfolding split_fade
goto_in_zero show is = simp (is.is_first, is.first_lists_1) refl

-- whatever times and delays the cue has: in two seconds channel 1 is half way after one
goto_in_delayed : (show : Tables) (first : CueData) → map.get show.cues 1000 ≡ Some first
    → map.get first.levels 1 ≡ Some 255
    → playback_level show (first_in 2000 0 ∷ []) 1 1000 ≡ 32512
unfolding split_fade
goto_in_delayed show first is lists = simp (is, lists) refl

-- half way up cue 1, cue 2 in eight seconds: two seconds later channel 1 has fallen by a quarter
goto_in_mid_fade : (show : Tables) → TwoCues show
    → playback_level show (second_in 8000 2500 ∷ first_at 0 ∷ []) 1 4500 ≡ 24384
unfolding split_fade
goto_in_mid_fade show is = simp (
  is.is_first,
  is.is_second,
  is.first_lists_1,
  is.second_lists_no_1,
  is.first_up,
  is.first_down,
) refl

-- and channel 2 has risen by a quarter
goto_in_mid_fade-2 : (show : Tables) → TwoCues show
    → playback_level show (second_in 8000 2500 ∷ first_at 0 ∷ []) 2 4500 ≡ 16256
unfolding split_fade
goto_in_mid_fade-2 show is = simp (
  is.is_first,
  is.is_second,
  is.first_lists_no_2,
  is.second_lists_2,
  is.first_up,
  is.first_down,
) refl

-- the next move takes its cue's times
goto_in_then_go : (show : Tables) → TwoCues show
    → playback_level show (second_at 1000 ∷ first_in 0 0 ∷ []) 1 2000 ≡ 48769
unfolding split_fade
goto_in_then_go show is = simp (
  is.is_first,
  is.is_second,
  is.first_lists_1,
  is.second_lists_no_1,
  is.second_up,
  is.second_down,
) refl

-- these two cues, and the first is followed so long after
record Follows (show : Tables) (time : ℕ) : Type 0 where
  two : TwoCues show
  keys : map.keys show.cues ≡ 1000 ∷ 2000 ∷ []
  first_follow : two.first.follow ≡ Some time

follow_at_tick : (show : Tables) → Follows show 10000 →
    with_due show 11000 (first_at 0 ∷ []) ≡ second_at 10000 ∷ first_at 0 ∷ []
unfolding with_due
follow_at_tick show is = simp (is.keys, is.two.is_first, is.first_follow) refl

follow_at_tick-before : (show : Tables) → Follows show 10000
    → with_due show 9999 (first_at 0 ∷ []) ≡ first_at 0 ∷ []
unfolding with_due
follow_at_tick-before show is = simp (is.keys, is.two.is_first, is.first_follow) refl

-- a go at the due moment comes after the due move
follow_then_go : (show : Tables) → Follows show 10000 →
    go_target show.cues (current_after (with_due show 10000 (first_at 0 ∷ []))) ≡ None
unfolding with_due
follow_then_go show is = simp (is.keys, is.two.is_first, is.first_follow) refl

returned : List Move
returned = first_at 5000 ∷ first_at 0 ∷ []

-- a goto lets what was due before it fall
follow_after_goto : (show : Tables) → Follows show 10000
    → (with_due show 5000 (first_at 0 ∷ []) ≡ first_at 0 ∷ [])
    × (with_due show 10000 returned ≡ returned)
    × (with_due show 15000 returned ≡ second_at 15000 ∷ returned)
unfolding returned with_due
follow_after_goto show is = (
  simp (is.keys, is.two.is_first, is.first_follow) refl,
  simp (is.keys, is.two.is_first, is.first_follow) refl,
  simp (is.keys, is.two.is_first, is.first_follow) refl,
)

follow_zero : (show : Tables) → Follows show 0 → with_due show 0 (first_at 0 ∷ [])
    ≡ second_at 0 ∷ first_at 0 ∷ []
unfolding with_due
follow_zero show is = simp (is.keys, is.two.is_first, is.first_follow) refl

-- a cue is followed at its own time, whatever time the move to it took, and the cue that follows
-- takes its own times
follow_after_goto_in : (show : Tables) → Follows show 10000
    → with_due show 11000 (first_in 2000 0 ∷ []) ≡ second_at 10000 ∷ first_in 2000 0 ∷ []
unfolding with_due
follow_after_goto_in show is = simp (is.keys, is.two.is_first, is.first_follow) refl
