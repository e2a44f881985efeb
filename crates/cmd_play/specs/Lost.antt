-- Offers that were lost.
use Rattle.std.specs.Prelude.{Bool, true, false}
use Rattle.sacn_source.specs.declared.offered.Offered.{Offered}
use Rattle.sacn_source.specs.declared.offered.Offered.TheVariants.{Lost}

abbrev pub is_lost : Offered → Bool
is_lost (Lost number) = true
is_lost _ = false
