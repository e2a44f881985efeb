-- Whether two states, or two troubles, are the same.
use Rattle.std.specs.Prelude.{ℕ, Bool, nat_eq}
use Rattle.link_notices.specs.declared.path.Trouble.{Trouble}
use Rattle.link_notices.specs.declared.path.Trouble.TheVariants as trouble
use Rattle.link_notices.specs.declared.source.SourceState.{SourceState}
use Rattle.link_notices.specs.declared.source.SourceState.TheVariants as source

abbrev pub number_of_source : SourceState → ℕ
number_of_source source.Sends = 0
number_of_source source.NoLink = 1
number_of_source source.Down = 2
number_of_source source.Lost = 3

abbrev pub same_source : SourceState → SourceState → Bool
same_source a b = nat_eq (number_of_source a) (number_of_source b)

abbrev pub number_of_trouble : Trouble → ℕ
number_of_trouble trouble.None = 0
number_of_trouble trouble.NoRouteYet = 1
number_of_trouble trouble.NoRoute = 2
number_of_trouble trouble.OtherCard = 3
number_of_trouble trouble.NoAnswer = 4

abbrev pub same_trouble : Trouble → Trouble → Bool
same_trouble a b = nat_eq (number_of_trouble a) (number_of_trouble b)
