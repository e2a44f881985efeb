-- What is said of a device that does not tell.
use Rattle.std.specs.Prelude.{ℕ, []}
use Rattle.devices.specs.Tape.{Tape}

abbrev pub no_tape : Tape ℕ
no_tape = record { items = []; failures = 0 }
