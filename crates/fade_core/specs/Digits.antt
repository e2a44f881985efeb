-- A share by its digits.
-- Of use inside the crate: what its public calls answer is said without these.
use Rattle.std.specs.Prelude.{ℕ, ◌+◌, ◌*◌, ◌^◌}
use Rattle.fade_core.specs.declared.digits.Digits.{Digits}

-- the share, as a number of 2 ^ 48ths
abbrev pub share_by : Digits → ℕ
share_by d = d.low + 2 ^ 16 * d.middle + 2 ^ 32 * d.high + 2 ^ 48 * d.whole
