-- How a packet is offered to the system.
use Rattle.std.specs.Prelude.{Bool, true, false, ◌||◌, Option, Some, None, if◌then◌else◌}
use Rattle.std.specs.declared.io.ErrorKind.TheVariants as kind
use Rattle.link_notices.specs.declared.path.PathState.{PathState}
use Rattle.link_notices.specs.declared.path.PathState.TheVariants.{Elsewhere, Leads, Nowhere}
use Rattle.link_notices.specs.declared.sending.Sending.{Sending}
use Rattle.link_notices.specs.declared.sending.Sending.TheVariants.{Bound, BoundAndLost, Lost}
use Rattle.link_notices.specs.declared.sending.Sending.TheVariants.{Unbound}
use Rattle.link_notices.specs.declared.source.SourceState.{SourceState}
use Rattle.link_notices.specs.declared.source.SourceState.TheVariants as source

-- the route leads by the card of the source
abbrev pub leads_by_source : PathState → Bool
leads_by_source Leads = true
leads_by_source (Elsewhere card) = false
leads_by_source Nowhere = false

-- by the socket of an address: what a card without a link takes is lost, and to a card that is
-- down, or for an address that is gone, nothing is offered
abbrev pub sending_by : SourceState → Sending
sending_by source.Sends = Bound
sending_by source.NoLink = BoundAndLost kind.NetworkDown
sending_by source.Down = Lost kind.NetworkDown
sending_by source.Lost = Lost kind.AddrNotAvailable

-- a packet that has an address to be sent from is offered to no other card, unless any will do
abbrev pub offer_of : PathState → Option SourceState → Bool → Sending
offer_of path None is_any_route = Unbound
offer_of path (Some source) is_any_route =
    if is_any_route || leads_by_source path then sending_by source else Lost kind.NetworkUnreachable
