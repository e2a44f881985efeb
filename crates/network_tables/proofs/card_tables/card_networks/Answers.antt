use Rattle.std.proofs.Common.{◌++◌, ◌∙◌, sym, ap₂, arith, rules, take, filter, option_to_list}
use Rattle.byte_reading.proofs.SoFar.{no_end, no_line, no_more, one_line}
use Rattle.network_tables.specs.Holders.{is_at_card}
use Rattle.network_tables.specs.Routes.{route_of}
use Rattle.network_tables.proofs.TablesRead.{networks_more}
use Rattle.network_tables.proofs.card_tables.card_networks.Goals as goal

pub loop-init : goal.loop-init
loop-init g c = no_line c.args.table.now (search rules)

pub loop-preserved : goal.loop-preserved
loop-preserved g c =
    let line = c.in-Some.line.bytes in
    let bytes = c.as_bytes.ensures.value ∙ c.as_str.ensures.value in
    one_line c.next_line.new.self line c.loop.invariant c.in-Some.ensures.some
    c.next_line.ensures.same (λ lines holds. c.add_network.ensures
    ∙ ap₂ (λ rows bytes. take 64 (rows ++ filter is_at_card (option_to_list (route_of bytes))))
    holds bytes ∙ sym (networks_more lines line))

pub returns-in_default : goal.returns-in_default
returns-in_default g c = no_more c.next_line.new.self c.loop.invariant c.in_default.ensures.none

pub returns : goal.returns
returns g c = no_end c.loop.invariant (omega (arith, c.loop-test.false, c.loop.auto.counter-end))
