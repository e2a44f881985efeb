-- What a fader keeps besides, at first and as a fade starts, and what follows.
use Rattle.std.proofs.Common.{◌≡◌, ℕ, ◌-◌, ◌^◌, ◌<◌, ◌≤◌, List, sym, ◌∙◌}
use Rattle.std.proofs.Common.{length, ap, arith, replicate, take}
use Rattle.std.specs.Prelude.{slice_index, EachIndex, Contains}
use Rattle.std.proofs.lemmas.Grind.{get_or_default_zero}
use Rattle.std.proofs.lemmas.List.{get_or-replicate, length-replicate, length-take-le, get_or-take}
use Rattle.std.proofs.lemmas.List.Elements.{All-replicate}
use Rattle.show_core.specs.Numbers.{AreLevels}
use Rattle.show_core.specs.declared.rate.Rate.{Rate}
use Rattle.fade_core.specs.Level.{split_fade}
use Rattle.fade_core.specs.Fading.{Fading, IsFading, level_at}
use Rattle.fade_core.specs.Stepping.{LevelsStand, AreChannels, IsUnlisted}
use Rattle.fade_core.proofs.Fade.{split_fade_still, split_fade_full, split_fade_zeros}

-- its levels are in their range
pub stands_full : (f : Fading) (levels moving : List ℕ) (count : ℕ) → IsFading f
    → LevelsStand f levels moving count → AreLevels levels
stands_full f levels moving count fading s = λ k d lt.
    let within : k < length f.from = omega (arith, s.levels_length) in
    let from_in : slice_index f.from k ≤ 65025 = fading.from_full k 0 within in
    let to_in : slice_index f.to k ≤ 65025 =
    fading.to_full k 0 (omega (arith, fading.same_length)) in
    let full = split_fade_full (slice_index f.from k) (slice_index f.to k) 65025 f.up f.down
    (f.latest - f.began) from_in to_in in
    omega (arith, get_or_default_zero levels k d lt, s.levels_are k within, full)

-- all channels at 0
pub fading_new : (f : Fading) (n : ℕ) → f.from ≡ replicate n 0 → f.to ≡ replicate n 0
    → n < 2 ^ 16 → f.began ≤ f.latest → IsFading f
fading_new f n from to few in_order =
    let full : AreLevels (replicate n 0) =
    All-replicate (λ level. level ≤ 65025) n 0 (omega arith) in
    record {
      same_length = ap length to ∙ sym (ap length from);
      few = omega (arith, ap length from, length-replicate {A = ℕ} n 0);
      from_full = rw from full;
      to_full = rw to full;
      in_order = in_order;
    }

pub stands_new : (f : Fading) (levels moving : List ℕ) (n : ℕ) → f.from ≡ replicate n 0
    → f.to ≡ replicate n 0 → levels ≡ replicate n 0 → moving ≡ replicate n 0
    → LevelsStand f levels moving 0
stands_new f levels moving n from to are none =
    let size : length f.from ≡ n = ap length from ∙ length-replicate {A = ℕ} n 0 in
    let dark : (place moment : ℕ) → place < length f.from → level_at f place moment ≡ 0 =
    λ place moment lt. split_fade_zeros f.from f.to n place f.up f.down (moment - f.began)
    (omega arith) from to in
    record {
      levels_length = ap length are ∙ sym (ap length from);
      moving_length = ap length none ∙ sym (ap length from);
      count_in = omega arith;
      listed = λ m lt. absurd (omega arith);
      levels_are = λ place lt. rw are (get_or-replicate {A = ℕ} n place 0 0 (omega arith))
          ∙ sym (dark place f.latest lt);
      others_stay = λ place lt unlisted moment le.
          dark place moment lt ∙ sym (dark place f.latest lt);
    }

still : (a b : ℕ) (up down : Rate) (e later : ℕ) → a ≡ b
    → split_fade a b up down later ≡ split_fade a b up down e
still a b up down e later is =
    rw is (split_fade_still b up down later ∙ sym (split_fade_still b up down e))

-- as a fade starts
pub stands_started : (f : Fading) (levels moving : List ℕ) (count : ℕ) → f.began ≡ f.latest
    → length levels ≡ length f.from → length moving ≡ length f.from → count ≤ length f.from
    → AreChannels moving count (length f.from)
    → EachIndex levels (λ place. slice_index levels place
    ≡ split_fade (slice_index f.from place) (slice_index f.to place) f.up f.down 0)
    → ((place : ℕ) → place < length f.from → IsUnlisted moving count place
    → slice_index f.from place ≡ slice_index f.to place)
    → LevelsStand f levels moving count
stands_started f levels moving count begins size room count_in listed are others =
    let none : f.latest - f.began ≡ 0 = omega arith in
    record {
      levels_length = size;
      moving_length = room;
      count_in = count_in;
      listed = listed;
      levels_are = λ place lt. rw none (are place (omega arith));
      others_stay = λ place lt unlisted moment le.
          still (slice_index f.from place) (slice_index f.to place) f.up f.down
          (f.latest - f.began) (moment - f.began) (others place lt unlisted);
    }

-- a channel that the front of a list does not have is not listed
pub unlisted_front : (moving : List ℕ) (count channel : ℕ) → count ≤ length moving → 1 ≤ channel
    → ¬ Contains (take count moving) channel → IsUnlisted moving count (channel - 1)
unlisted_front moving count channel le from_one lacks = λ m lt same.
    let size : length (take count moving) ≡ count = length-take-le count moving le in
    let here = get_or-take {A = ℕ} count moving m channel lt in
    let default = get_or_default_zero moving m channel (omega arith) in
    lacks (m, omega arith, here ∙ omega (arith, default))
