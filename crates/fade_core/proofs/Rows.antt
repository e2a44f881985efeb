-- Levels worked out by hand.
use Rattle.std.proofs.Common.{◌≡◌, ℕ, [], ◌∷◌, refl}
use Rattle.show_core.specs.declared.rate.Rate.{Rate}
use Rattle.fade_core.specs.Level.{Start, level_after, split_fade}

-- a rate with no delay
abbrev over : ℕ → Rate
over time = record { time = time; delay = 0 }

-- channel 1 to full over five seconds
abbrev first_cue : ℕ → Start
first_cue moment = record {
  look = (1, 255) ∷ [];
  up = over 5000;
  down = over 5000;
  moment = moment;
}

-- channel 2 to full over two seconds, and channel 1 out over four
abbrev second_cue : ℕ → Start
second_cue moment = record {
  look = (2, 255) ∷ [];
  up = over 2000;
  down = over 4000;
  moment = moment;
}

-- a channel to full over two seconds, one second later
abbrev delayed : Start
delayed = record {
  look = (1, 255) ∷ [];
  up = record { time = 2000; delay = 1000 };
  down = over 0;
  moment = 0;
}

-- a channel to full in the longest time
abbrev slowest : Start
slowest = record { look = (1, 255) ∷ []; up = over 5999990; down = over 0; moment = 0 }

five_second_fade : level_after (first_cue 0 ∷ []) 1 0 ≡ 0
unfolding split_fade
five_second_fade = refl

five_second_fade-2500 : level_after (first_cue 0 ∷ []) 1 2500 ≡ 32512
unfolding split_fade
five_second_fade-2500 = refl

five_second_fade-2510 : level_after (first_cue 0 ∷ []) 1 2510 ≡ 32642
unfolding split_fade
five_second_fade-2510 = refl

five_second_fade-2525 : level_after (first_cue 0 ∷ []) 1 2525 ≡ 32837
unfolding split_fade
five_second_fade-2525 = refl

five_second_fade-5000 : level_after (first_cue 0 ∷ []) 1 5000 ≡ 65025
unfolding split_fade
five_second_fade-5000 = refl

split_crossfade : level_after (second_cue 10000 ∷ first_cue 0 ∷ []) 1 11000 ≡ 48769
unfolding split_fade
split_crossfade = refl

split_crossfade-2 : level_after (second_cue 10000 ∷ first_cue 0 ∷ []) 2 11000 ≡ 32512
unfolding split_fade
split_crossfade-2 = refl

goto_mid_fade :
    level_after (first_cue 11000 ∷ second_cue 10000 ∷ first_cue 0 ∷ []) 1 12000 ≡ 52020
unfolding split_fade
goto_mid_fade = refl

goto_mid_fade-2 :
    level_after (first_cue 11000 ∷ second_cue 10000 ∷ first_cue 0 ∷ []) 2 12000 ≡ 26010
unfolding split_fade
goto_mid_fade-2 = refl

delayed_rise : level_after (delayed ∷ []) 1 1000 ≡ 0
unfolding split_fade
delayed_rise = refl

delayed_rise-1001 : level_after (delayed ∷ []) 1 1001 ≡ 32
unfolding split_fade
delayed_rise-1001 = refl

delayed_rise-2000 : level_after (delayed ∷ []) 1 2000 ≡ 32512
unfolding split_fade
delayed_rise-2000 = refl

delayed_rise-3000 : level_after (delayed ∷ []) 1 3000 ≡ 65025
unfolding split_fade
delayed_rise-3000 = refl

slow_fade_exact : level_after (slowest ∷ []) 1 92 ≡ 0
unfolding split_fade
slow_fade_exact = refl

slow_fade_exact-93 : level_after (slowest ∷ []) 1 93 ≡ 1
unfolding split_fade
slow_fade_exact-93 = refl

slow_fade_exact-5999989 : level_after (slowest ∷ []) 1 5999989 ≡ 65024
unfolding split_fade
slow_fade_exact-5999989 = refl

slow_fade_exact-5999990 : level_after (slowest ∷ []) 1 5999990 ≡ 65025
unfolding split_fade
slow_fade_exact-5999990 = refl

abbrev at_once : Start
at_once = record { look = (1, 255) ∷ []; up = over 0; down = over 0; moment = 7 }

zero_times : level_after (at_once ∷ []) 1 7 ≡ 65025
unfolding split_fade
zero_times = refl
