-- How a host is reached, and what is wrong with the way to it.
use Rattle.std.specs.Prelude.{ℕ, Bool, ◌||◌, bytes_eq, nat_le, Option, Some, None, if◌then◌else◌}
use Rattle.arrayvec.specs.declared.array_string.ArrayString.{ArrayString}
use Rattle.link_notices.specs.declared.path.CardAddress.{CardAddress}
use Rattle.link_notices.specs.declared.path.PathState.{PathState}
use Rattle.link_notices.specs.declared.path.PathState.TheVariants.{Elsewhere, Leads, Nowhere}
use Rattle.link_notices.specs.declared.path.Trouble.{Trouble}
use Rattle.link_notices.specs.declared.path.Trouble.TheVariants as trouble

-- the route gives the address itself, or one of the same card
abbrev pub leads_by : CardAddress → CardAddress → Bool
leads_by source route = bytes_eq route.address source.address
    || bytes_eq route.card.bytes source.card.bytes

-- how a host is reached from a source, by the address that the route there gives, and its card:
-- without a route not at all; by another card only where any will do
abbrev pub path_state : Option CardAddress → CardAddress → Bool → PathState
path_state None source is_any_route = Nowhere
path_state (Some route) source is_any_route =
    if is_any_route || leads_by source route then Leads else Elsewhere route.card

-- where a card is named, a route by another one refuses the night
abbrev pub refused_card : PathState → Bool → Option (ArrayString 15)
refused_card (Elsewhere card) is_named = if is_named then Some card else None
refused_card Leads is_named = None
refused_card Nowhere is_named = None

-- no route: none yet, where there is no address to send from; the route leads by another card; or
-- its first taker did not answer at 2 looks one behind the other
abbrev pub trouble_of : PathState → Bool → ℕ → Trouble
trouble_of Nowhere has_source silence =
    if has_source then trouble.NoRoute else trouble.NoRouteYet
trouble_of (Elsewhere card) has_source silence = trouble.OtherCard
trouble_of Leads has_source silence = if nat_le 2 silence then trouble.NoAnswer else trouble.None
