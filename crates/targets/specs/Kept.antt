-- What a sender over memory keeps, as contracts see it.
use Rattle.std.specs.Prelude.{List, [], ◌∷◌, ◌++◌, fold}
use Rattle.targets.specs.Datagram.{Packet, with_datagram}
use Rattle.targets.specs.declared.memory.MemoryOffer.{MemoryOffer}
use Rattle.targets.specs.declared.memory.MemoryOffer.TheVariants as offer

-- one offer more: a packet begins, or a datagram is of the last one
abbrev pub with_offer : List Packet → MemoryOffer → List Packet
with_offer packets (offer.Packet universe bytes) =
    packets ++ record { universe = universe; bytes = bytes.items; datagrams = [] } ∷ []
with_offer packets (offer.Datagram to bytes failed) =
    with_datagram packets (record { to = to; bytes = bytes.items; failed = failed })

-- all of them, in turn
abbrev pub packets_of : List MemoryOffer → List Packet
packets_of offers = fold with_offer [] offers
