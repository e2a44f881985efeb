-- The fields of a rig, seen as its base and its patch.
use Rattle.std.specs.Prelude.{◌≡◌, ◌*◌, ◌<◌, ℕ, IsTrue, All, length, slice_index_or}
use Rattle.std.specs.Ordering.{nat_cmp}
use Rattle.std.specs.FinMap as map
use Rattle.show_core.specs.Numbers.{is_dimmer, is_channel}
use Rattle.patch_core.specs.declared.rig.Rig.TheInside.{Inside}
use Rattle.patch_core.specs.Frame.{Rigging, is_base}
use Rattle.patch_core.specs.Index.{IsIndex}
use Rattle.patch_core.specs.Sources.{AreBytesOf, AreSources}
use Rattle.patch_core.specs.declared.sources.Bytes.TheVariants.{Mixed}

-- the patch is the map of the dimmers
abbrev pub rig_view : Inside → Rigging
rig_view r = record { base = r.base; patch = map.from_sorted r.dimmers.items }

-- the dimmers rise, they and their channels are in their ranges, they are listed by channel, too,
-- each finds its level and its byte, the bytes of each ordinal are of their kind, and the universes
-- have numbers
pub record IsRig (r : Inside) : Type 0 where
  pub sorted : IsTrue (map.is_sorted nat_cmp r.dimmers.items)
  pub numbers_in : All (λ e. IsTrue (is_dimmer e.0)) r.dimmers.items
  pub channels_in : All (λ e. IsTrue (is_channel e.1.0)) r.dimmers.items
  pub index : IsIndex r.dimmers.items r.by_channel.items r.begins.items
  pub sources : AreSources (rig_view r).patch r.sources.items r.bytes.items
  pub each_kind : length r.kinds.items ≡ 16
  pub kinds : (k : ℕ) → k < 16
      → AreBytesOf (slice_index_or r.kinds.items k Mixed) r.bytes.items (512 * k)
  pub base_in : IsTrue (is_base (rig_view r).patch r.base)
