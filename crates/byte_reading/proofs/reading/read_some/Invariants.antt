use Rattle.std.proofs.Common.{◌≡◌, length}
use Rattle.std.specs.Io.KnownBytes.{Keeps}
use Rattle.byte_reading.proofs.reading.read_some.Given as goal

-- an interrupted read took nothing
abbrev pub invariant-loop : goal.invariant-loop
invariant-loop g l = record {
  nothing : Keeps (g.R.Read.remaining l.initial.reader) (g.R.Read.remaining l.reader);
  room : length l.block ≡ length l.initial.block;
}
