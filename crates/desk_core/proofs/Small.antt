-- A small show, and what it means, evaluated: cue 1 brings channel 1 to full over five seconds;
-- cue 2 brings channel 2 to full over two, and channel 1 out over four; submaster 1 has channel 1
-- at half; dimmers 1 and 2 are patched to channels 1 and 2 at full.
use Rattle.desk_core.proofs.Terms.{◌≡◌, ℕ, true, List, [], ◌∷◌, Option, Some, ◌++◌, None, refl, ap, ◌∙◌}
use Rattle.desk_core.proofs.Terms.{range_with_len, option_map_or, nat_cmp, CueData, slot_of, LevelMap}
use Rattle.desk_core.proofs.Terms.{Tables, split_fade, grand_after, frame_of, is_base, Go, Sub, Move}
use Rattle.desk_core.proofs.Terms.{with_due, with_due-none, move_to, Act, ticks_since_end, order}
use Rattle.desk_core.proofs.Terms.{Plain, settings, tick, channel_level, frame, universe_numbers}
use Rattle.std.proofs.Common.{map, replicate}
use Rattle.std.specs.FinMap as map

-- the levels of a cue or a submaster that has one channel at one level
one_level : ℕ → ℕ → LevelMap
one_level channel byte = map.from_sorted ((channel, byte) ∷ [])

level_of : (channel byte at : ℕ)
    → map.get (one_level channel byte) at ≡ map.find nat_cmp at ((channel, byte) ∷ [])
unfolding one_level
level_of channel byte at = map.get-from_sorted nat_cmp ((channel, byte) ∷ []) at tt

abbrev first : CueData
first = record {
  levels = one_level 1 255;
  up = Some (record { time = 5000; delay = 0 });
  down = None;
  follow = None;
}

abbrev second : CueData
second = record {
  levels = one_level 2 255;
  up = Some (record { time = 2000; delay = 0 });
  down = Some (record { time = 4000; delay = 0 });
  follow = None;
}

abbrev patched : List (ℕ × (ℕ × ℕ))
patched = (1, (1, 255)) ∷ (2, (2, 255)) ∷ []

pub small : Tables
small = record {
  cues = map.from_sorted ((1000, first) ∷ (2000, second) ∷ []);
  subs = map.from_sorted ((1, one_level 1 128) ∷ []);
  groups = map.from_sorted [];
  patch = map.from_sorted patched;
}

cues_are : map.entries small.cues ≡ (1000, first) ∷ (2000, second) ∷ []
unfolding small
cues_are = map.entries-from_sorted nat_cmp ((1000, first) ∷ (2000, second) ∷ []) tt

-- no cue follows by itself
pub no_move : (moment : ℕ) → with_due small moment [] ≡ []
no_move moment = with_due-none small moment [] tt

pub after_first : (moment at : ℕ) (older : List Move)
    → with_due small moment (move_to 1000 at ∷ older) ≡ move_to 1000 at ∷ older
after_first moment at older = with_due-none small moment (move_to 1000 at ∷ older)
    (simp (map.get-entries small.cues 1000, cues_are) tt)

pub after_second : (moment at : ℕ) (older : List Move)
    → with_due small moment (move_to 2000 at ∷ older) ≡ move_to 2000 at ∷ older
after_second moment at older = with_due-none small moment (move_to 2000 at ∷ older)
    (simp (map.get-entries small.cues 2000, cues_are) tt)

subs_are : map.entries small.subs ≡ (1, one_level 1 128) ∷ []
unfolding small
subs_are = map.entries-from_sorted nat_cmp ((1, one_level 1 128) ∷ []) tt

groups_are : map.entries small.groups ≡ []
unfolding small
groups_are = map.entries-from_sorted nat_cmp [] tt

patch_is : map.entries small.patch ≡ patched
unfolding small
patch_is = map.entries-from_sorted nat_cmp patched tt

pub cues : map.keys small.cues ≡ 1000 ∷ 2000 ∷ []
cues = rw cues_are refl

pub subs : map.contains_key small.subs 1 ≡ true
subs = rw (map.contains_key-keys small.subs 1, subs_are) refl

pub numbers : universe_numbers small.patch 1 ≡ 1 ∷ []
unfolding universe_numbers
numbers = rw patch_is refl

pub based : is_base small.patch 1 ≡ true
unfolding is_base
based = rw patch_is refl

-- ---- its frames

-- a frame with this first slot, and the others at 0
abbrev pub first_at : ℕ → List ℕ
first_at byte = byte ∷ replicate 511 0

patched_slot : (ℕ → ℕ) → ℕ → Option (ℕ × ℕ) → ℕ
patched_slot level grand o = option_map_or (λ (p : ℕ × ℕ). slot_of (level p.0) grand p.1) o 0

-- of a frame, the slots of dimmers 1 and 2 follow the channels, and the others are 0
frame_at : (level : ℕ → ℕ) (grand : ℕ)
    → frame_of small.patch level grand 0
    ≡ map (λ (l : ℕ). slot_of l grand 255) (map level (1 ∷ 2 ∷ [])) ++ replicate 510 0
unfolding patched_slot
frame_at level grand =
    ap (λ (at : ℕ → Option (ℕ × ℕ)). map (λ d. patched_slot level grand (at d))
    (range_with_len 1 512)) (λ i d. (map.get-entries small.patch d
    ∙ ap (map.find nat_cmp d) patch_is) i) ∙ refl

frame_first : (h : List Act) (t level : ℕ) → ticks_since_end h ≡ None
    → grand_after (settings h) ≡ 255
    → map (channel_level small h t) (1 ∷ 2 ∷ []) ≡ level ∷ 0 ∷ []
    → frame small h t 0 ≡ first_at (slot_of level 255 255)
unfolding frame
frame_first h t level live grand levels =
    rw live (frame_at (channel_level small h t) (grand_after (settings h))
    ∙ ap (λ (ls : List ℕ). map (λ (l : ℕ). slot_of l (grand_after (settings h)) 255) ls
    ++ replicate 510 0) levels ∙ rw grand)

abbrev at_go : List Act
at_go = record { moment = 0; call = order (Plain Go) } ∷ []

abbrev at_sub : ℕ → List Act
at_sub byte = record { moment = 0; call = order (Plain (Sub 1 byte)) } ∷ []

abbrev at_1000 : List Act
at_1000 = record { moment = 1000; call = tick } ∷ at_go

-- what a history makes of its channels, evaluated
cue_1000 : map.get small.cues 1000 ≡ Some first
cue_1000 = map.get-entries small.cues 1000 ∙ ap (map.find nat_cmp 1000) cues_are

pub frame_1000 : frame small at_go 1000 0 ≡ first_at 51
unfolding split_fade
frame_1000 = frame_first at_go 1000 13005 refl refl
    (simp (no_move, after_first, cues_are, cue_1000, subs_are, groups_are, level_of) refl)

pub frame_2000 : frame small at_1000 2000 0 ≡ first_at 102
unfolding split_fade
frame_2000 = frame_first at_1000 2000 26010 refl refl
    (simp (no_move, after_first, cues_are, cue_1000, subs_are, groups_are, level_of) refl)

pub frame_full : frame small (at_sub 255) 0 0 ≡ first_at 128
frame_full = frame_first (at_sub 255) 0 32640 refl refl
    (simp (no_move, subs_are, groups_are, level_of) refl)

pub frame_half : frame small (at_sub 128) 0 0 ≡ first_at 64
frame_half = frame_first (at_sub 128) 0 16384 refl refl
    (simp (no_move, subs_are, groups_are, level_of) refl)
