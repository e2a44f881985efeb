-- The fields of masters, seen as their bytes.
use Rattle.std.specs.Prelude.{◌≡◌, length}
use Rattle.master_core.specs.declared.masters.Masters.TheInside.{Inside}
use Rattle.master_core.specs.Settings.{Bytes}

abbrev pub masters_view : Inside → Bytes
masters_view m = record { subs = m.subs; groups = m.groups; grand = m.grand }

-- there is a byte for each number up to the greatest
pub record IsMasters (m : Inside) : Type 0 where
  pub subs_to_100 : length m.subs ≡ 101
  pub groups_to_500 : length m.groups ≡ 501
