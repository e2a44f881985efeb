-- Each builder keeps the numbers of a show in their ranges.
use Rattle.show_core.proofs.Terms.{◌≡◌, ℕ, ◌+◌, ◌<◌, ◌≤◌, ◌==◌, true, false, cond, IsTrue, Option, Some}
use Rattle.show_core.proofs.Terms.{None, is_some, List, [], ◌∷◌, refl, ap, ◌∙◌, arith, All, IfSome}
use Rattle.show_core.proofs.Terms.{option_map, list_all, OnSome, option_map_or, nat_cmp, nat_cmp_total}
use Rattle.show_core.proofs.Terms.{nat_tests, CueData, Rate, is_channel, is_dimmer, is_sub, is_group}
use Rattle.show_core.proofs.Terms.{is_cue_number, is_time, Tables, LevelMap, CueMap, MasterMap, PatchMap}
use Rattle.show_core.proofs.Terms.{blank, with_cue, can_open, with_change, opened_in, can_patch}
use Rattle.show_core.proofs.Terms.{patched_with, all_patched, IsInRange, IsRateInRange, HasTimes}
use Rattle.show_core.proofs.Terms.{rate_of}
use Rattle.std.specs.FinMap as map
use Rattle.show_core.proofs.Cues.{no_times}
use Rattle.show_core.proofs.Sorted.{and_left, and_right, from_true, to_true}
use Rattle.show_core.proofs.Ranges.{keys-insert, keys-changed, keys-remove, key_in, len-changed}
use Rattle.show_core.proofs.Ranges.{values-insert, values-remove, values-changed, value_in, none_in}
use Rattle.show_core.proofs.Ranges.{no_values}

-- a map of records has only keys of a kind, also with one more
pub opened_in_range : (P : ℕ → Type 0) (masters : MasterMap) (n : ℕ)
    → All P (map.keys masters) → P n
    → All P (map.keys (opened_in masters n))
opened_in_range P masters n h p =
    elim (map.contains_key masters n)
    as (λ b. All P (map.keys (cond b masters (map.insert masters n map.empty)))) [
      | true ↦ h
      | false ↦ keys-insert P masters n map.empty h p
    ]

time_fits : (t : ℕ) → IsTrue (is_time t) → t ≤ 5999990
time_fits t h = grind (arith, nat_tests)

-- the rate that a cue answers is in its range
pub rate_fits : (set other : Option Rate) → IfSome set IsRateInRange → IfSome other IsRateInRange
    → ((rate_of set other).time ≤ 5999990) × ((rate_of set other).delay ≤ 5999990)
rate_fits (Some rate) other here there =
    (time_fits rate.time here.0, time_fits rate.delay here.1)
rate_fits None (Some rate) here there =
    (time_fits rate.time there.0, time_fits rate.delay there.1)
rate_fits None None here there = (omega arith, omega arith)

-- so is its follow-on time
pub follow_fits : (follow : Option ℕ) → IfSome follow (λ time. IsTrue (is_time time))
    → IfSome follow (λ time. time ≤ 5999990)
follow_fits None h = tt
follow_fits (Some time) h = time_fits time h

pub empty_in_range : IsInRange
    (record { cues = map.empty; subs = map.empty; groups = map.empty; patch = map.empty })
empty_in_range = record {
  cues_in = none_in CueData (λ n. IsTrue (is_cue_number n));
  cues_fit = omega (arith, map.len-empty nat_cmp CueData);
  times_in = no_values CueData (λ e. HasTimes e.1);
  subs_in = none_in LevelMap (λ n. IsTrue (is_sub n));
  groups_in = none_in LevelMap (λ n. IsTrue (is_group n));
  dimmers_in = none_in (ℕ × ℕ) (λ d. IsTrue (is_dimmer d));
  patch_channels = no_values (ℕ × ℕ) (λ e. IsTrue (is_channel e.1.0));
}

abbrev pub changed_in : MasterMap → ℕ → (LevelMap → LevelMap) → MasterMap
changed_in masters n change =
    option_map_or (λ levels. map.insert masters n (change levels)) (map.get masters n) masters

module _ (t : Tables) (h : IsInRange t) where
  -- one table is replaced
  cues_in_range : (cues : CueMap) → All (λ n. IsTrue (is_cue_number n)) (map.keys cues)
      → map.len cues ≤ 2000
      → All (λ e. HasTimes e.1) (map.entries cues) → IsInRange (record t { cues = cues })
  cues_in_range cues s fit times = record {
    cues_in = s;
    cues_fit = fit;
    times_in = times;
    subs_in = h.subs_in;
    groups_in = h.groups_in;
    dimmers_in = h.dimmers_in;
    patch_channels = h.patch_channels;
  }

  pub masters_in_range : (subs groups : MasterMap) → All (λ n. IsTrue (is_sub n)) (map.keys subs)
      → All (λ n. IsTrue (is_group n)) (map.keys groups)
      → IsInRange (record t { subs = subs; groups = groups })
  masters_in_range subs groups s g = record {
    cues_in = h.cues_in;
    cues_fit = h.cues_fit;
    times_in = h.times_in;
    subs_in = s;
    groups_in = g;
    dimmers_in = h.dimmers_in;
    patch_channels = h.patch_channels;
  }

  patch_in_range : (patch : PatchMap) → All (λ d. IsTrue (is_dimmer d)) (map.keys patch)
      → All (λ e. IsTrue (is_channel e.1.0)) (map.entries patch)
      → IsInRange (record t { patch = patch })
  patch_in_range patch s c = record {
    cues_in = h.cues_in;
    cues_fit = h.cues_fit;
    times_in = h.times_in;
    subs_in = h.subs_in;
    groups_in = h.groups_in;
    dimmers_in = s;
    patch_channels = c;
  }

  pub opened_cue_in_range : (n : ℕ) → can_open t.cues n ≡ true
      → IsInRange (record t { cues = with_cue t.cues n })
  opened_cue_in_range n can =
      elim (map.contains_key t.cues n)
      as (λ b. map.contains_key t.cues n ≡ b
      → IsInRange (record t { cues = cond b t.cues (map.insert t.cues n blank) })) [
        | true ↦ λ _. h
        | false ↦ λ absent.
            let number : IsTrue (is_cue_number n) =
            to_true (and_left (is_cue_number n) _ (from_true can)) in
            let can' : can_open t.cues n ≡ true = can in
            let room : map.len t.cues < 2000 = grind (arith, nat_tests, rw absent at can') in
            let more : map.len (map.insert t.cues n blank) ≡ map.len t.cues + 1 =
            map.len-insert nat_cmp_total t.cues n blank
            ∙ ap (λ b. cond b (map.len t.cues) (map.len t.cues + 1)) absent in
            cues_in_range (map.insert t.cues n blank)
            (keys-insert (λ k. IsTrue (is_cue_number k)) t.cues n blank h.cues_in number)
            (omega arith)
            (values-insert HasTimes t.cues n blank h.times_in no_times)
      ] refl

  pub changed_cue_in_range : (n : ℕ) (change : CueData → CueData)
      → ((cue : CueData) → HasTimes cue → HasTimes (change cue))
      → IsInRange (record t { cues = with_change t.cues n change })
  changed_cue_in_range n change keep =
      let many : map.len (with_change t.cues n change) ≡ map.len t.cues =
      len-changed t.cues n change in
      let few : map.len t.cues ≤ 2000 = h.cues_fit in
      cues_in_range (with_change t.cues n change)
      (keys-changed (λ k. IsTrue (is_cue_number k)) t.cues n change h.cues_in) (omega arith)
      (values-changed HasTimes t.cues n change keep h.times_in)

  pub no_cues_in_range : IsInRange (record t { cues = map.empty })
  no_cues_in_range =
      cues_in_range map.empty (none_in CueData (λ n. IsTrue (is_cue_number n)))
      (omega (arith, map.len-empty nat_cmp CueData))
      (no_values CueData (λ e. HasTimes e.1))

  pub changed_sub_in_range : (n : ℕ) (change : LevelMap → LevelMap)
      → IsInRange (record t { subs = changed_in t.subs n change })
  changed_sub_in_range n change =
      masters_in_range (changed_in t.subs n change) t.groups
      (keys-changed (λ k. IsTrue (is_sub k)) t.subs n change h.subs_in) h.groups_in

  pub changed_group_in_range : (n : ℕ) (change : LevelMap → LevelMap)
      → IsInRange (record t { groups = changed_in t.groups n change })
  changed_group_in_range n change =
      masters_in_range t.subs (changed_in t.groups n change) h.subs_in
      (keys-changed (λ k. IsTrue (is_group k)) t.groups n change h.groups_in)

  pub patched_in_range : (dimmer channel byte : ℕ) → can_patch dimmer channel ≡ true
      → IsInRange (record t { patch = patched_with t.patch dimmer channel byte })
  patched_in_range dimmer channel byte can =
      let number : IsTrue (is_dimmer dimmer) =
      to_true (and_left (is_dimmer dimmer) _ (from_true can)) in
      let can' : can_patch dimmer channel ≡ true = can in
      elim (channel == 0)
      as (λ b. (channel == 0) ≡ b
      → IsInRange (record t {
        patch = cond b (map.remove t.patch dimmer)
            (map.insert t.patch dimmer (channel, byte));
      })) [
        | true ↦ λ _. patch_in_range (map.remove t.patch dimmer)
            (keys-remove (λ d. IsTrue (is_dimmer d)) t.patch dimmer h.dimmers_in)
            (values-remove (λ v. IsTrue (is_channel v.0)) t.patch dimmer h.patch_channels)
        | false ↦ λ some.
            let there : IsTrue (is_channel channel) = grind (arith, nat_tests) in
            patch_in_range (map.insert t.patch dimmer (channel, byte))
            (keys-insert (λ d. IsTrue (is_dimmer d)) t.patch dimmer
            (channel, byte) h.dimmers_in number)
            (values-insert (λ v. IsTrue (is_channel v.0)) t.patch dimmer
            (channel, byte) h.patch_channels there)
      ] refl

  pub no_patch_in_range : IsInRange (record t { patch = map.empty })
  no_patch_in_range =
      patch_in_range map.empty (none_in (ℕ × ℕ) (λ d. IsTrue (is_dimmer d)))
      (no_values (ℕ × ℕ) (λ e. IsTrue (is_channel e.1.0)))

  -- what is patched is in range
  pub found_in_range : (dimmer : ℕ)
      → IfSome (map.get t.patch dimmer) (λ p. IsTrue (is_dimmer dimmer) × IsTrue (is_channel p.0))
  found_in_range dimmer =
      elim (map.get t.patch dimmer)
      as (λ o. map.get t.patch dimmer ≡ o → IfSome o (λ p. IsTrue (is_channel p.0))
      → IfSome o (λ p. IsTrue (is_dimmer dimmer) × IsTrue (is_channel p.0))) [
        | None ↦ λ _ _. tt
        | Some v ↦ λ is channel. (
          key_in (λ d. IsTrue (is_dimmer d)) t.patch dimmer h.dimmers_in
              (ap is_some is),
          channel,
        )
      ] refl (value_in (λ v. IsTrue (is_channel v.0)) t.patch dimmer h.patch_channels)

pub patches_in_range : (t : Tables) → IsInRange t → (entries : List (ℕ × (ℕ × ℕ)))
    → IsTrue (list_all (λ e. can_patch e.0 e.1.0) entries)
    → IsInRange (record t { patch = all_patched t.patch entries })
patches_in_range t h [] can = h
patches_in_range t h (e ∷ entries) can =
    let rest = list_all (λ (x : ℕ × (ℕ × ℕ)). can_patch x.0 x.1.0) entries in
    patches_in_range (record t { patch = patched_with t.patch e.0 e.1.0 e.1.1 })
    (patched_in_range t h e.0 e.1.0 e.1.1
    (to_true (and_left (can_patch e.0 e.1.0) rest (from_true can))))
    entries (to_true (and_right (can_patch e.0 e.1.0) rest (from_true can)))

-- what is found under a number is there, so that the number is in the range of the keys
pub found_key : {V A B : Type 0} (P : ℕ → Type 0) (m : map.FinMap nat_cmp V) (n : ℕ) (g : A → B)
    (f : V → B) (found : Option A) → All P (map.keys m)
    → option_map g found ≡ option_map f (map.get m n) → OnSome found (P n)
found_key P m n g f None keys same = tt
found_key P m n g f (Some x) keys same =
    elim (map.get m n) as (λ o. map.get m n ≡ o → Some (g x) ≡ option_map f o → P n) [
      | None ↦ λ _ not. cc
      | Some v ↦ λ there _. key_in P m n keys (ap is_some there)
    ] refl same
