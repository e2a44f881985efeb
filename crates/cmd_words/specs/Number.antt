-- A number of a range, as a text.
use Rattle.std.specs.Prelude.{ℕ, Option, Some, None, option_and_then, nat_le, if◌then◌else◌}
use Rattle.clap.specs.Words.{Text}
use Rattle.ascii_text.specs.Forms.{whole_of}

-- a number from least to most
abbrev pub number_between : ℕ → ℕ → Text → Option ℕ
number_between least most text =
    option_and_then (λ n. if nat_le least n then Some n else None) (whole_of most text)
