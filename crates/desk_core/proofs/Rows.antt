-- What a console does with a small show, evaluated.
use Rattle.std.proofs.Common.{◌≡◌, ℕ, ◌+◌, ◌-◌, ◌<◌, List, [], ◌∷◌, Some, None, get_or, refl, ◌∙◌}
use Rattle.std.proofs.Common.{Option, arith, lit<}
use Rattle.std.specs.FinMap as map
use Rattle.std.proofs.lemmas.List.FromFn.{get_or-map-range_with_len}
use Rattle.show_core.specs.declared.cue.CueData.{CueData}
use Rattle.show_core.specs.Readers.{slot_of}
use Rattle.show_core.specs.Tables.{LevelMap, Tables}
use Rattle.fade_core.specs.Level.{split_fade}
use Rattle.master_core.specs.Settings.{grand_after}
use Rattle.patch_core.specs.Frame.{dimmer_slot}
use Rattle.desk_core.specs.declared.command.Command.TheVariants.{Go, Back, Goto, Sub, Group}
use Rattle.desk_core.specs.declared.command.Command.TheVariants.{Master, End}
use Rattle.desk_core.specs.declared.instruction.Instruction.TheVariants.{Plain, GotoIn}
use Rattle.desk_core.specs.declared.answer.Ticked.TheVariants.{Live, Ending}
use Rattle.desk_core.specs.declared.answer.Refused.TheVariants.{Backwards, MomentTooLarge, Ended}
use Rattle.desk_core.specs.declared.answer.Refused.TheVariants.{TooSoon, AtEnd, AtStart, NoCue}
use Rattle.desk_core.specs.declared.answer.Refused.TheVariants.{NoSub, NoGroup}
use Rattle.playback_core.specs.Played.{Move, with_due}
use Rattle.playback_core.proofs.Due.{with_due-none}
use Rattle.desk_core.specs.Played.{Call, order, tick, Act, ticks_since_end, settings, refusal}
use Rattle.desk_core.specs.Played.{tick_answer}
use Rattle.desk_core.specs.Meaning.{dark, channel_level, frame, latest_frame}

-- cue 1 brings channel 1 to full over five seconds; cue 2 brings channel 2 to full over two, and
-- channel 1 out over four;
-- submaster 1 has channel 1 at half; dimmers 1 and 2 are patched to channels 1 and 2 at full
record IsSmall (show : Tables) : Type 0 where
  first : CueData
  second : CueData
  sub : LevelMap
  cues_are : map.entries show.cues ≡ (1000, first) ∷ (2000, second) ∷ []
  subs_are : map.entries show.subs ≡ (1, sub) ∷ []
  groups_are : map.entries show.groups ≡ []
  patch_is : map.entries show.patch ≡ (1, (1, 255)) ∷ (2, (2, 255)) ∷ []
  first_is : map.entries first.levels ≡ (1, 255) ∷ []
  second_is : map.entries second.levels ≡ (2, 255) ∷ []
  sub_is : map.entries sub ≡ (1, 128) ∷ []
  first_follow : first.follow ≡ None
  second_follow : second.follow ≡ None
  first_up : first.up ≡ Some (record { time = 5000; delay = 0 })
  first_down : first.down ≡ None
  second_up : second.up ≡ Some (record { time = 2000; delay = 0 })
  second_down : second.down ≡ Some (record { time = 4000; delay = 0 })

abbrev at : ℕ → Call → Act
at moment call = record { moment = moment; call = call }

-- the slot of a dimmer of ordinal 0, at a tick of this moment
slot : Tables → List Act → ℕ → ℕ → ℕ
slot show history moment dimmer = get_or (frame show history moment 0) (dimmer - 1) 0

slot_is : (show : Tables) (history : List Act) (moment place dimmer : ℕ)
    → ticks_since_end history ≡ None
    → 1 + place ≡ dimmer → place < 512
    → slot show history moment dimmer ≡ dimmer_slot show.patch (channel_level show history moment)
    (grand_after (settings history)) dimmer
unfolding slot frame
slot_is show history moment place dimmer live next lt =
    let back : dimmer - 1 ≡ place = omega arith in
    rw (live, back) (get_or-map-range_with_len
    (dimmer_slot show.patch (channel_level show history moment) (grand_after (settings history)))
    1 512 place dimmer 0 lt next)

module _ (show : Tables) (is : IsSmall show) where
  -- ---- no cue follows by itself

  no_move : (moment : ℕ) → with_due show moment [] ≡ []
  no_move moment = with_due-none show moment [] tt

  after_first : (moment at : ℕ) (time : Option ℕ) (older : List Move)
      → with_due show moment (record { cue = 1000; moment = at; time = time } ∷ older)
      ≡ record { cue = 1000; moment = at; time = time } ∷ older
  after_first moment at time older = with_due-none show moment
      (record { cue = 1000; moment = at; time = time } ∷ older)
      (simp (map.get-entries show.cues 1000, is.cues_are, is.first_follow) tt)

  after_second : (moment at : ℕ) (time : Option ℕ) (older : List Move)
      → with_due show moment (record { cue = 2000; moment = at; time = time } ∷ older)
      ≡ record { cue = 2000; moment = at; time = time } ∷ older
  after_second moment at time older = with_due-none show moment
      (record { cue = 2000; moment = at; time = time } ∷ older)
      (simp (map.get-entries show.cues 2000, is.cues_are, is.second_follow) tt)

  -- ---- refusals

  one_tick : List Act
  one_tick = at 100 tick ∷ []

  desk_refusals : (refusal show one_tick (at 99 (order (Plain Go))) ≡ Some Backwards)
      × (refusal show one_tick (at 110 tick) ≡ Some TooSoon)
      × (refusal show one_tick (at 281474976710656 tick) ≡ Some MomentTooLarge)
      × (refusal show one_tick (at 281474976710655 tick) ≡ None)
      × (refusal show one_tick (at 100 (order (Plain (Goto 3000)))) ≡ Some NoCue)
      × (refusal show one_tick (at 100 (order (GotoIn 3000 0))) ≡ Some NoCue)
      × (refusal show one_tick (at 100 (order (Plain (Sub 2 1)))) ≡ Some NoSub)
      × (refusal show one_tick (at 100 (order (Plain (Group 1 1)))) ≡ Some NoGroup)
      × (refusal show one_tick (at 100 (order (Plain Go))) ≡ None)
  unfolding one_tick
  desk_refusals = (
    refl,
    refl,
    refl,
    refl,
    rw (map.contains_key-keys show.cues 3000, is.cues_are) refl,
    rw (map.contains_key-keys show.cues 3000, is.cues_are) refl,
    rw (map.contains_key-keys show.subs 2, is.subs_are) refl,
    rw (map.contains_key-keys show.groups 1, is.groups_are) refl,
    simp (no_move, is.cues_are) refl,
  )

  -- equal moments pass, and the gap is counted from the last tick
  tick_gap : (refusal show (at 100 (order (Plain Go)) ∷ at 90 tick ∷ []) (at 113 tick) ≡ None)
      × (refusal show (at 100 (order (Plain Go)) ∷ at 90 tick ∷ []) (at 112 tick) ≡ Some TooSoon)
      × (refusal show (at 100 (order (Plain Go)) ∷ []) (at 100 tick) ≡ None)
  tick_gap = (refl, refl, refl)

  end_at : ℕ → List Act
  end_at moment = at moment (order (Plain End)) ∷ []

  after_end : (refusal show (end_at 200) (at 281474976710656 (order (Plain Go))) ≡ Some MomentTooLarge)
      × (refusal show (end_at 200) (at 200 (order (Plain Go))) ≡ Some Ended)
      × (refusal show (end_at 200) (at 200 (order (Plain End))) ≡ Some Ended)
  unfolding end_at
  after_end = (refl, refl, refl)

  three_ticks : List Act
  three_ticks = at 46 tick ∷ at 23 tick ∷ at 0 tick ∷ end_at 0

  play_refusals : (refusal show [] (at 0 (order (Plain Back))) ≡ Some AtStart)
      × (refusal show (end_at 0) (at 0 (order (Plain Go))) ≡ Some Ended)
      × (refusal show (end_at 0) (at 0 tick) ≡ None)
      × (tick_answer (ticks_since_end []) ≡ Live)
      × (tick_answer (ticks_since_end (end_at 0)) ≡ Ending 1)
      × (tick_answer (ticks_since_end (at 0 tick ∷ end_at 0)) ≡ Ending 2)
      × (tick_answer (ticks_since_end (at 23 tick ∷ at 0 tick ∷ end_at 0)) ≡ Ending 3)
      × (refusal show (at 23 tick ∷ at 0 tick ∷ end_at 0) (at 46 tick) ≡ None)
      × (refusal show three_ticks (at 69 tick) ≡ Some Ended)
  unfolding end_at three_ticks
  play_refusals = (simp no_move refl, refl, refl, refl, refl, refl, refl, refl, refl)

  -- over comes before too soon
  over_first : refusal show three_ticks (at 47 tick) ≡ Some Ended
  unfolding end_at three_ticks
  over_first = refl

  at_end : refusal show (at 0 (order (Plain Go)) ∷ at 0 (order (Plain Go)) ∷ []) (at 0 (order (Plain Go))) ≡ Some AtEnd
  at_end = simp (no_move, after_first, after_second, is.cues_are) refl

  -- ---- frames

  dark_before_first_tick : (ordinal : ℕ) → latest_frame show (at 0 (order (Plain Go)) ∷ []) ordinal ≡ dark
  dark_before_first_tick ordinal = refl

  dark_after_end : latest_frame show three_ticks 0 ≡ dark
  unfolding end_at three_ticks frame
  dark_after_end = refl

  -- dimmers 1 and 2 at full
  slot_1 : (history : List Act) (moment level grand : ℕ) → ticks_since_end history ≡ None
      → channel_level show history moment 1 ≡ level → grand_after (settings history) ≡ grand
      → slot show history moment 1 ≡ slot_of level grand 255
  slot_1 history moment level grand live level_is grand_is =
      slot_is show history moment 0 1 live refl (lit< tt)
      ∙ rw (map.get-entries show.patch 1, is.patch_is, level_is, grand_is) refl

  slot_2 : (history : List Act) (moment level grand : ℕ) → ticks_since_end history ≡ None
      → channel_level show history moment 2 ≡ level → grand_after (settings history) ≡ grand
      → slot show history moment 2 ≡ slot_of level grand 255
  slot_2 history moment level grand live level_is grand_is =
      slot_is show history moment 1 2 live refl (lit< tt)
      ∙ rw (map.get-entries show.patch 2, is.patch_is, level_is, grand_is) refl

  go_at_0 : List Act
  go_at_0 = at 0 (order (Plain Go)) ∷ []

  five_second_fade-level : channel_level show go_at_0 2500 1 ≡ 32512
  unfolding go_at_0 split_fade
  five_second_fade-level = simp (
    no_move,
    after_first,
    after_second,
    map.get-entries show.cues 1000,
    is.cues_are,
    is.subs_are,
    is.groups_are,
    map.get-entries is.first.levels 1,
    is.first_is,
    map.get-entries is.sub 1,
    is.sub_is,
    is.first_up,
    is.first_down,
  ) refl

  five_second_fade : slot show go_at_0 2500 1 ≡ 127
  unfolding go_at_0
  five_second_fade = slot_1 go_at_0 2500 32512 255 refl five_second_fade-level refl

  five_second_fade-2510-level : channel_level show go_at_0 2510 1 ≡ 32642
  unfolding go_at_0 split_fade
  five_second_fade-2510-level =
      simp (
        no_move,
        after_first,
        after_second,
        map.get-entries show.cues 1000,
        is.cues_are,
        is.subs_are,
        is.groups_are,
        map.get-entries is.first.levels 1,
        is.first_is,
        map.get-entries is.sub 1,
        is.sub_is,
        is.first_up,
        is.first_down,
      ) refl

  five_second_fade-2510 : slot show go_at_0 2510 1 ≡ 128
  unfolding go_at_0
  five_second_fade-2510 = slot_1 go_at_0 2510 32642 255 refl five_second_fade-2510-level refl

  five_second_fade-5000-level : channel_level show go_at_0 5000 1 ≡ 65025
  unfolding go_at_0 split_fade
  five_second_fade-5000-level =
      simp (
        no_move,
        after_first,
        after_second,
        map.get-entries show.cues 1000,
        is.cues_are,
        is.subs_are,
        is.groups_are,
        map.get-entries is.first.levels 1,
        is.first_is,
        map.get-entries is.sub 1,
        is.sub_is,
        is.first_up,
        is.first_down,
      ) refl

  five_second_fade-5000 : slot show go_at_0 5000 1 ≡ 255
  unfolding go_at_0
  five_second_fade-5000 = slot_1 go_at_0 5000 65025 255 refl five_second_fade-5000-level refl

  two_goes : List Act
  two_goes = at 10000 (order (Plain Go)) ∷ at 0 (order (Plain Go)) ∷ []

  split_crossfade-level : channel_level show two_goes 11000 1 ≡ 48769
  unfolding two_goes split_fade
  split_crossfade-level = simp (
    no_move,
    after_first,
    after_second,
    map.get-entries show.cues 1000,
    map.get-entries show.cues 2000,
    is.cues_are,
    is.subs_are,
    is.groups_are,
    map.get-entries is.first.levels 1,
    is.first_is,
    map.get-entries is.second.levels 1,
    is.second_is,
    map.get-entries is.sub 1,
    is.sub_is,
    is.first_up,
    is.first_down,
    is.second_up,
    is.second_down,
  ) refl

  split_crossfade : slot show two_goes 11000 1 ≡ 191
  unfolding two_goes
  split_crossfade = slot_1 two_goes 11000 48769 255 refl split_crossfade-level refl

  split_crossfade-2-level : channel_level show two_goes 11000 2 ≡ 32512
  unfolding two_goes split_fade
  split_crossfade-2-level =
      simp (
        no_move,
        after_first,
        after_second,
        map.get-entries show.cues 1000,
        map.get-entries show.cues 2000,
        is.cues_are,
        is.subs_are,
        is.groups_are,
        map.get-entries is.first.levels 2,
        is.first_is,
        map.get-entries is.second.levels 2,
        is.second_is,
        map.get-entries is.sub 2,
        is.sub_is,
        is.first_up,
        is.first_down,
        is.second_up,
        is.second_down,
      ) refl

  split_crossfade-2 : slot show two_goes 11000 2 ≡ 127
  unfolding two_goes
  split_crossfade-2 = slot_2 two_goes 11000 32512 255 refl split_crossfade-2-level refl

  returned : List Act
  returned = at 11000 (order (Plain (Goto 1000))) ∷ at 11000 tick ∷ two_goes

  goto_mid_fade-level : channel_level show returned 12000 1 ≡ 52020
  unfolding returned two_goes split_fade
  goto_mid_fade-level = simp (
    no_move,
    after_first,
    after_second,
    map.get-entries show.cues 1000,
    map.get-entries show.cues 2000,
    is.cues_are,
    is.subs_are,
    is.groups_are,
    map.get-entries is.first.levels 1,
    is.first_is,
    map.get-entries is.second.levels 1,
    is.second_is,
    map.get-entries is.sub 1,
    is.sub_is,
    is.first_up,
    is.first_down,
    is.second_up,
    is.second_down,
  ) refl

  goto_mid_fade : slot show returned 12000 1 ≡ 204
  unfolding returned two_goes
  goto_mid_fade = slot_1 returned 12000 52020 255 refl goto_mid_fade-level refl

  goto_mid_fade-2-level : channel_level show returned 12000 2 ≡ 26010
  unfolding returned two_goes split_fade
  goto_mid_fade-2-level = simp (
    no_move,
    after_first,
    after_second,
    map.get-entries show.cues 1000,
    map.get-entries show.cues 2000,
    is.cues_are,
    is.subs_are,
    is.groups_are,
    map.get-entries is.first.levels 2,
    is.first_is,
    map.get-entries is.second.levels 2,
    is.second_is,
    map.get-entries is.sub 2,
    is.sub_is,
    is.first_up,
    is.first_down,
    is.second_up,
    is.second_down,
  ) refl

  goto_mid_fade-2 : slot show returned 12000 2 ≡ 102
  unfolding returned two_goes
  goto_mid_fade-2 = slot_2 returned 12000 26010 255 refl goto_mid_fade-2-level refl

  -- half way up cue 1, cue 2 in eight seconds: two seconds later each channel has gone a quarter
  slowed : List Act
  slowed = at 2500 (order (GotoIn 2000 8000)) ∷ at 0 (order (Plain Go)) ∷ []

  goto_in_mid_fade-level : channel_level show slowed 4500 1 ≡ 24384
  unfolding slowed split_fade
  goto_in_mid_fade-level = simp (
    no_move,
    after_first,
    after_second,
    map.get-entries show.cues 1000,
    map.get-entries show.cues 2000,
    is.cues_are,
    is.subs_are,
    is.groups_are,
    map.get-entries is.first.levels 1,
    is.first_is,
    map.get-entries is.second.levels 1,
    is.second_is,
    map.get-entries is.sub 1,
    is.sub_is,
    is.first_up,
    is.first_down,
  ) refl

  goto_in_mid_fade : slot show slowed 4500 1 ≡ 96
  unfolding slowed
  goto_in_mid_fade = slot_1 slowed 4500 24384 255 refl goto_in_mid_fade-level refl

  goto_in_mid_fade-2-level : channel_level show slowed 4500 2 ≡ 16256
  unfolding slowed split_fade
  goto_in_mid_fade-2-level = simp (
    no_move,
    after_first,
    after_second,
    map.get-entries show.cues 1000,
    map.get-entries show.cues 2000,
    is.cues_are,
    is.subs_are,
    is.groups_are,
    map.get-entries is.first.levels 2,
    is.first_is,
    map.get-entries is.second.levels 2,
    is.second_is,
    map.get-entries is.sub 2,
    is.sub_is,
    is.first_up,
    is.first_down,
  ) refl

  goto_in_mid_fade-2 : slot show slowed 4500 2 ≡ 64
  unfolding slowed
  goto_in_mid_fade-2 = slot_2 slowed 4500 16256 255 refl goto_in_mid_fade-2-level refl

  -- cue 1 at once, and then cue 2 over its own times
  snapped : List Act
  snapped = at 1000 (order (Plain Go)) ∷ at 0 (order (GotoIn 1000 0)) ∷ []

  goto_in_then_go-level : channel_level show snapped 2000 1 ≡ 48769
  unfolding snapped split_fade
  goto_in_then_go-level = simp (
    no_move,
    after_first,
    after_second,
    map.get-entries show.cues 1000,
    map.get-entries show.cues 2000,
    is.cues_are,
    is.subs_are,
    is.groups_are,
    map.get-entries is.first.levels 1,
    is.first_is,
    map.get-entries is.second.levels 1,
    is.second_is,
    map.get-entries is.sub 1,
    is.sub_is,
    is.second_up,
    is.second_down,
  ) refl

  goto_in_then_go : slot show snapped 2000 1 ≡ 191
  unfolding snapped
  goto_in_then_go = slot_1 snapped 2000 48769 255 refl goto_in_then_go-level refl

  sub_at_half : List Act
  sub_at_half = at 0 (order (Plain (Sub 1 128))) ∷ []

  submaster_and_grand-half-level : channel_level show sub_at_half 0 1 ≡ 16384
  unfolding sub_at_half split_fade
  submaster_and_grand-half-level =
      simp (no_move, is.subs_are, is.groups_are, map.get-entries is.sub 1, is.sub_is) refl

  submaster_and_grand-half : slot show sub_at_half 0 1 ≡ 64
  unfolding sub_at_half
  submaster_and_grand-half = slot_1 sub_at_half 0 16384 255 refl submaster_and_grand-half-level refl

  sub_at_full : List Act
  sub_at_full = at 25 (order (Plain (Sub 1 255))) ∷ at 0 tick ∷ sub_at_half

  submaster_and_grand-full-level : channel_level show sub_at_full 25 1 ≡ 32640
  unfolding sub_at_full sub_at_half split_fade
  submaster_and_grand-full-level =
      simp (no_move, is.subs_are, is.groups_are, map.get-entries is.sub 1, is.sub_is) refl

  submaster_and_grand-full : slot show sub_at_full 25 1 ≡ 128
  unfolding sub_at_full sub_at_half
  submaster_and_grand-full = slot_1 sub_at_full 25 32640 255 refl submaster_and_grand-full-level
      refl

  grand_at_half : List Act
  grand_at_half = at 5125 (order (Plain (Master 128))) ∷ at 5100 tick ∷ at 100 (order (Plain Go)) ∷ at 25
      tick ∷ sub_at_full

  submaster_and_grand-level : channel_level show grand_at_half 5125 1 ≡ 65025
  unfolding grand_at_half sub_at_full sub_at_half split_fade
  submaster_and_grand-level =
      simp (
        no_move,
        after_first,
        after_second,
        map.get-entries show.cues 1000,
        is.cues_are,
        is.subs_are,
        is.groups_are,
        map.get-entries is.first.levels 1,
        is.first_is,
        map.get-entries is.sub 1,
        is.sub_is,
        is.first_up,
        is.first_down,
      ) refl

  submaster_and_grand : slot show grand_at_half 5125 1 ≡ 128
  unfolding grand_at_half sub_at_full sub_at_half
  submaster_and_grand = slot_1 grand_at_half 5125 65025 128 refl submaster_and_grand-level refl
