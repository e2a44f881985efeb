use Rattle.std.proofs.Common.{◌+◌, ◌∙◌, subst}
use Rattle.byte_reading.specs.LinesLeft.{bytes_left}
use Rattle.byte_reading.proofs.ReadLines.{line_read}
use Rattle.byte_reading.proofs.SoFar.{no_line, one_line}
use Rattle.network_tables.specs.NeighborRows.{IsNoNeighbor}
use Rattle.network_tables.specs.Neighbors.{IsNeighbor}
use Rattle.network_tables.proofs.RowsRead.{neighbor_read, none_more, none_yet}
use Rattle.network_tables.proofs.neighbor_table.next_neighbor.Goals as goal

pub loop-init : goal.loop-init
loop-init g c = no_line c.args.table.now none_yet

pub loop-preserved : goal.loop-preserved
loop-preserved g c =
    let line = c.in-Some.line.bytes in
    let none = subst IsNoNeighbor (c.as_bytes.ensures.value ∙ c.as_str.ensures.value)
    c.in_default-read.ensures.none in
    one_line c.next_line.new.self line c.loop.invariant c.in-Some.ensures.some
    c.next_line.ensures.same (λ lines holds. none_more lines line holds none)

pub returns-in-Some-read-clause-some : goal.returns-in-Some-read-clause-some
returns-in-Some-read-clause-some g c =
    let left = bytes_left g.B.BlockSource.left in
    let read = c.loop.invariant in
    let line = c.in-Some.line.bytes in
    let is = subst (λ bytes. IsNeighbor bytes c.in-Some-read.neighbor)
    (c.as_bytes.ensures.value ∙ c.as_str.ensures.value) c.in-Some-read.ensures.some in
    neighbor_read (left c.args.table.now) (left c.next_line.new.self) read.lines line
    (c.loop.counter + 1) c.in-Some-read.neighbor
    (line_read (left c.args.table.now) (left c.loop.table) (left c.next_line.new.self)
    read.lines line c.loop.counter read.read c.in-Some.ensures.some) read.holds is
