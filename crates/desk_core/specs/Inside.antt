-- What holds of the fields of every desk.
use Rattle.std.specs.Prelude.{◌≡◌, ◌≤◌, ℕ, Bool, true, false, IsTrue, List, All, length}
use Rattle.show_core.specs.Numbers.{AreLevels}
use Rattle.show_core.specs.Readers.{IsInRange}
use Rattle.show_core.specs.Tables.{Tables}
use Rattle.patch_core.specs.Frame.{Rigging, is_base}
use Rattle.desk_core.specs.declared.kept.FloorState.{FloorState}
use Rattle.desk_core.specs.declared.kept.FloorState.TheVariants as floor_state
use Rattle.desk_core.specs.declared.kept.FrameState.{FrameState}
use Rattle.desk_core.specs.declared.kept.FrameState.TheVariants as frame_state
use Rattle.desk_core.specs.Meaning.{universe_numbers}

-- the floors are those of the submasters and groups as they are set now
abbrev pub are_current : FloorState → Bool
are_current floor_state.Stale = false
are_current _ = true

-- the frames are what the show means now
abbrev pub are_kept : FrameState → Bool
are_kept frame_state.Kept = true
are_kept _ = false

-- the fader is not ahead of the last call, the rig has the show's patch, the universes have
-- numbers, which are at hand, the show's numbers are in their ranges, there is a level and a floor
-- in its range for each channel and a slot for each dimmer, and dark floors are 0
pub record IsDesk (fader_latest last_moment : ℕ) (rig : Rigging) (show : Tables)
    (universes levels floors : List ℕ) (state : FloorState) (slots : List ℕ) : Type 0 where
  pub not_ahead : fader_latest ≤ last_moment
  pub patch_is : rig.patch ≡ show.patch
  pub base_in : IsTrue (is_base show.patch rig.base)
  pub universes_are : universes ≡ universe_numbers show.patch rig.base
  pub in_range : IsInRange show
  pub each_channel : length levels ≡ 4096
  pub full : AreLevels levels
  pub each_floor : length floors ≡ 4096
  pub floors_full : AreLevels floors
  pub dark : state ≡ floor_state.Dark → All (λ floor. floor ≡ 0) floors
  pub each_slot : length slots ≡ 8192
