use Rattle.std.proofs.Common.{◌≡◌, ◌≤◌, ◌-◌, length}
use Rattle.std.specs.Io.KnownBytes.{Consumes}
use Rattle.byte_reading.proofs.reading.first_bytes.Given as goal

-- the bytes so far are the first of the reader
abbrev pub invariant-loop-block : goal.invariant-loop-block
invariant-loop-block g l = record {
  within : length l.bytes.items ≤ l.most;
  same : l.most ≡ l.fn.most;
  first : Consumes (g.R.Read.remaining l.initial.reader) (g.R.Read.remaining l.reader)
      l.bytes.items;
}

abbrev pub decreases-loop-block : goal.decreases-loop-block
decreases-loop-block g l = l.most - length l.bytes.items
