-- What the table of neighbors says of a path.
use Rattle.network_tables.specs.Neighbors.{silence_by}
use Rattle.network_tables.specs.declared.neighbor.Neighbor.{Neighbor}
use Rattle.packet_paths.specs.declared.path.Path.{Path}

-- a path behind a row of it: its first taker answers there, or is silent, while the card has a link
abbrev pub after_row : Neighbor → Path → Path
after_row row path =
    record path { silence = silence_by row path.neighbor path.has_link path.silence }
