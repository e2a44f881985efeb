-- The addresses of this machine that the packets of a night come from.
use Rattle.link_notices.specs.declared.path.CardAddress.{CardAddress}
use Rattle.night_lines.specs.declared.night_source.NightSource.{NightSource}

-- an address, and its card
abbrev pub origin_of : NightSource → CardAddress
origin_of source = record { address = source.address; card = source.card }
