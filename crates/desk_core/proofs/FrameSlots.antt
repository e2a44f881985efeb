-- A frame has 512 slots, and 0 where no channel is patched; so has the latest frame.
use Rattle.desk_core.proofs.Terms.{◌≡◌, ℕ, ◌+◌, ◌*◌, ◌<◌, refl, ap, ◌∙◌, List, [], ◌∷◌, length, None}
use Rattle.desk_core.proofs.Terms.{slice_index, option_map_or, cond_both, get_or-replicate}
use Rattle.desk_core.proofs.Terms.{length-map-range_with_len, get_or-map-range_with_len, slot_of, Tables}
use Rattle.desk_core.proofs.Terms.{grand_after, dimmer_slot, frame_of, Call, order, tick, Act}
use Rattle.desk_core.proofs.Terms.{ticks_since_end, settings, dark, frame, latest_frame, channel_level}
use Rattle.std.specs.Prelude.{is_some}
use Rattle.std.specs.FinMap as maps

-- what holds of the dark frame, and of each that levels make
module _ (P : List ℕ → Type 0) (s : Tables) (k : ℕ) (at_dark : P dark)
    (drawn : (level : ℕ → ℕ) (grand : ℕ) → P (frame_of s.patch level grand k)) where
  each_frame : (h : List Act) (t : ℕ) → P (frame s h t k)
  unfolding frame
  each_frame h t =
      cond_both (is_some (ticks_since_end h)) dark (frame_of s.patch (channel_level s h t)
      (grand_after (settings h)) k) P (λ _. at_dark)
      (λ _. drawn (channel_level s h t) (grand_after (settings h)))

  each_latest : (h : List Act) → P (latest_frame s h k)
  each_latest [] = at_dark
  each_latest (a ∷ h) = go a.call (each_latest h)
    where
      go : (c : Call) → P (latest_frame s h k)
          → P (latest_frame s (record { moment = a.moment; call = c } ∷ h) k)
      go tick ih = each_frame h a.moment
      go (order c) ih = ih

drawn_full : (s : Tables) (k : ℕ) (level : ℕ → ℕ) (grand : ℕ)
    → length (frame_of s.patch level grand k) ≡ 512
drawn_full s k level grand =
    length-map-range_with_len (dimmer_slot s.patch level grand) (512 * k + 1) 512

pub frame_full : (s : Tables) (h : List Act) (t k : ℕ) → length (frame s h t k) ≡ 512
frame_full s h t k = each_frame (λ f. length f ≡ 512) s k refl (drawn_full s k) h t

pub latest_full : (s : Tables) (h : List Act) (k : ℕ) → length (latest_frame s h k) ≡ 512
latest_full s h k = each_latest (λ f. length f ≡ 512) s k refl (drawn_full s k) h

pub unpatched_latest : (s : Tables) (h : List Act) (k slot : ℕ) → slot < 512
    → maps.get s.patch (512 * k + 1 + slot) ≡ None → slice_index (latest_frame s h k) slot ≡ 0
unpatched_latest s h k slot below none =
    each_latest (λ f. slice_index f slot ≡ 0) s k (get_or-replicate 512 slot 0 0 below)
    (λ level grand. get_or-map-range_with_len (dimmer_slot s.patch level grand) (512 * k + 1) 512
    slot (512 * k + 1 + slot) 0 below refl
    ∙ ap (λ p. option_map_or (λ (p : ℕ × ℕ). slot_of (level p.0) grand p.1) p 0) none) h
