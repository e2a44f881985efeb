-- Why a night is not sent by the card that its words name.
use Rattle.std.specs.Prelude.{◌≡◌, ℕ, List}
use Rattle.network_tables.specs.declared.table.Card.{Card}
use Rattle.packet_paths.specs.RefusedRoutes.{RouteRefusal}
use Rattle.packet_paths.specs.declared.named_refusal.NamedRefusal.{NamedRefusal}
use Rattle.remarks.specs.Cards.{of_card, of_route}
use Rattle.remarks.specs.declared.card.DownCards.{DownCards}
use Rattle.remarks.specs.declared.failure.JobFault.{JobFault}
use Rattle.remarks.specs.declared.failure.JobFault.TheVariants as job

-- words are refused, with this remark
abbrev pub RefusesWords : List ℕ → JobFault → Type 0
RefusesWords remark (job.Words told) = told.items ≡ remark
RefusesWords remark _ = ⊥

-- the cards that may have an address which is not known
abbrev pub AreDown : NamedRefusal → DownCards → Type 0
AreDown refusal down =
    (down.names.now ≡ refusal.hidden.names.bytes) × (down.count ≡ refusal.hidden.count)

-- the card that is named cannot be sent by, on a machine with these cards
abbrev pub IsRefusedCard : List ℕ → NamedRefusal → List Card → JobFault → Type 0
IsRefusedCard named refusal cards fault = (down : DownCards) × AreDown refusal down
    × RefusesWords (of_card named refusal.reason cards down) fault

-- a route leads by another card
abbrev pub IsRefusedRoute : RouteRefusal → JobFault → Type 0
IsRefusedRoute refused fault =
    RefusesWords (of_route refused.host refused.card refused.other) fault
