-- What was read of a line, as contracts see it.
use Rattle.cmd_listen.specs.declared.line.Line.{Line}
use Rattle.cmd_listen.specs.declared.line.Line.TheVariants.{Blank, Malformed, At}
use Rattle.cmd_listen.specs.Reading.{WatchLine, blank, malformed, at}

abbrev pub spelled_of : Line → WatchLine
spelled_of Blank = blank
spelled_of Malformed = malformed
spelled_of (At moment datagram) = at moment datagram.items
