-- How long a main is silent.
use Rattle.std.specs.Prelude.{ℕ, Bool, ◌+◌, ◌/◌, min, nat_le}
use Rattle.night_record.specs.declared.silence.Lead.{Lead}

-- the whole milliseconds of so many nanoseconds
abbrev pub silence_of : ℕ → ℕ
silence_of passed = min (passed / 1000000) 18446744073709551615

-- its newest line came at least so many milliseconds ago
abbrev pub is_record_silent : ℕ → ℕ → Bool
is_record_silent passed patience = nat_le patience (passed / 1000000)

-- the moment at which a night leads: ten seconds of a silence count
abbrev pub leading_moment : ℕ → ℕ → ℕ
leading_moment newest silence = min (newest + min silence 10000) 18446744073709551615

-- how a night leads whose newest line, of this moment, came so many nanoseconds ago
abbrev pub lead_behind : ℕ → ℕ → Lead
lead_behind newest passed = record {
  silence = silence_of passed;
  moment = leading_moment newest (silence_of passed);
}
