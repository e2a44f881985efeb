-- The masters: what the settings of masters leave.
use Rattle.std.specs.Prelude.{◌≡◌, ◌↔◌, ℕ, ◌==◌, if◌then◌else◌, IsTrue, IsFalse, List, [], ◌∷◌}
use Rattle.std.specs.Prelude.{slice_index, Result, Err, IsOk, OnOk, OnErr}
use Rattle.std.specs.FinMap as map
use Rattle.std.specs.Ordering.{nat_cmp}
use Rattle.master_core.specs.declared.fault.NoMaster.{NoMaster}
use Rattle.show_core.specs.Numbers.{is_sub, is_group}

-- a setting that was accepted: of a submaster or a group, by its number, or of the grand master, to
-- a byte
pub data Setting : Type 0 where
  sub_setting : ℕ → ℕ → Setting
  group_setting : ℕ → ℕ → Setting
  grand_setting : ℕ → Setting

-- the master of submaster n after these settings, the newest first: the byte set last, or 0 where
-- there is none
abbrev pub sub_after : List Setting → ℕ → ℕ
sub_after [] n = 0
sub_after (sub_setting k byte ∷ older) n = if k == n then byte else sub_after older n
sub_after (_ ∷ older) n = sub_after older n

-- the master of group n: the byte set last, or 0 where there is none
abbrev pub group_after : List Setting → ℕ → ℕ
group_after [] n = 0
group_after (group_setting k byte ∷ older) n = if k == n then byte else group_after older n
group_after (_ ∷ older) n = group_after older n

-- the grand master: the byte set last, or 255 where there is none
abbrev pub grand_after : List Setting → ℕ
grand_after [] = 255
grand_after (grand_setting byte ∷ older) = byte
grand_after (_ ∷ older) = grand_after older

-- the master of each submaster and of each group, by its number, and the grand master
pub record Bytes : Type 0 where
  pub subs : List ℕ
  pub groups : List ℕ
  pub grand : ℕ

-- the bytes are what these settings leave
pub record StandsFor (masters : Bytes) (settings : List Setting) : Type 0 where
  pub subs_are : (n : ℕ) → IsTrue (is_sub n) → slice_index masters.subs n ≡ sub_after settings n
  pub groups_are : (n : ℕ) → IsTrue (is_group n)
      → slice_index masters.groups n ≡ group_after settings n
  pub grand_is : masters.grand ≡ grand_after settings

-- a setting leads from one list of bytes to another: the new one is what the settings of the old
-- one and this behind them leave
abbrev pub Leads : Setting → Bytes → Bytes → Type 0
Leads setting old new = (settings : List Setting) → StandsFor old settings
    → StandsFor new (setting ∷ settings)

-- the master of record n was to be set: where the record is there, what was asked for is the newest
-- setting; where it is not, the call is refused for that, and nothing changed
pub record Sets {V X : Type 0} (records : map.FinMap nat_cmp V) (n : ℕ) (absence : NoMaster)
    (setting : Setting) (before after : Bytes) (result : Result X NoMaster) : Type 0 where
  pub stands : OnOk result (Leads setting before after)
  pub unchanged : OnErr result (after ≡ before)
  pub there : IsOk result ↔ IsTrue (map.contains_key records n)
  pub absent : (result ≡ Err absence) ↔ IsFalse (map.contains_key records n)
