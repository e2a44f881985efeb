use Rattle.std.proofs.Common.{◌∙◌, sym, ap, ap₂, arith, rules}
use Rattle.byte_reading.proofs.SoFar.{no_end, no_line, no_more, one_line}
use Rattle.network_tables.specs.Best.{better_by}
use Rattle.network_tables.specs.Routes.{route_of}
use Rattle.network_tables.proofs.BestSoFar.{best_more}
use Rattle.network_tables.proofs.route_table.best_route.Goals as goal

pub loop-init : goal.loop-init
loop-init g c = no_line c.args.table.now (search rules)

pub loop-preserved : goal.loop-preserved
loop-preserved g c =
    let line = c.in-Some.line.bytes in
    let bytes = c.as_bytes.ensures.value ∙ c.as_str.ensures.value in
    one_line c.next_line.new.self line c.loop.invariant c.in-Some.ensures.some
    c.next_line.ensures.same (λ lines holds. c.better_by-best.ensures
    ∙ ap₂ (better_by c.args.host) holds (ap route_of bytes)
    ∙ sym (best_more c.args.host lines line))

pub returns-in_default : goal.returns-in_default
returns-in_default g c = no_more c.next_line.new.self c.loop.invariant c.in_default.ensures.none

pub returns : goal.returns
returns g c = no_end c.loop.invariant (omega (arith, c.loop-test.false, c.loop.auto.counter-end))
