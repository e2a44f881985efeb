-- Which calls of a device over memory fail.
use Rattle.std.specs.Prelude.{ℕ, ◌≡◌, ◌+◌, ◌-◌, Bool, ◌&&◌, if◌then◌else◌, nat_eq, nat_lt}
use Rattle.devices.specs.declared.memory.faults.Faults.{Faults}

-- before its first call: so many pass, then so many fail, and none has failed
abbrev pub AreFirst : ℕ → ℕ → Faults → Type 0
AreFirst passing failing faults =
    (faults.passing ≡ passing) × (faults.failing ≡ failing) × (faults.failed ≡ 0)

-- the next call is one of those that fail
abbrev pub is_failing : Faults → Bool
is_failing faults = nat_eq faults.passing 0 && nat_lt 0 faults.failing

-- a call was counted, as one that passed or as one that failed
pub record IsCounted (old new : Faults) : Type 0 where
  pub passing : new.passing ≡ old.passing - 1
  pub failing : new.failing ≡ (if is_failing old then old.failing - 1 else old.failing)
  pub failed : new.failed ≡ (if is_failing old then old.failed + 1 else old.failed)
