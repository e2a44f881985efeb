use Rattle.std.proofs.Common.{◌++◌, ◌∷◌, [], ◌∙◌, None, sym, ap, subst, arith, rules}
use Rattle.byte_reading.proofs.SoFar.{no_end, no_line, no_more, one_line}
use Rattle.network_tables.specs.Trees.{Found, Says, found_after}
use Rattle.network_tables.proofs.TablesRead.{found_more, said_more}
use Rattle.network_tables.proofs.card_tables.own_addresses.Goals as goal

pub loop-init : goal.loop-init
loop-init g c = no_line c.args.tree.now ([], tt, search rules)

pub loop-preserved : goal.loop-preserved
loop-preserved g c =
    let line = c.in-Some.line.bytes in
    let says = subst (λ bytes. Says bytes c.read.result)
    (c.as_bytes.ensures.value ∙ c.as_str.ensures.value) c.read.ensures in
    one_line c.next_line.new.self line c.loop.invariant c.in-Some.ensures.some
    c.next_line.ensures.same (λ lines holds. (
      holds.0 ++ c.read.result ∷ [],
      said_more lines holds.0 line c.read.result holds.1 says,
      c.take_up.ensures ∙ ap (λ (found : Found). found_after found c.read.result) holds.2
          ∙ sym (found_more (record { leaf = None; addresses = [] }) holds.0 c.read.result),
    ))

pub returns-in_default : goal.returns-in_default
returns-in_default g c =
    let all = no_more c.next_line.new.self c.loop.invariant c.in_default.ensures.none in
    (all.0, all.1, all.2.0, all.2.1, ap (λ (found : Found). found.addresses) all.2.2)

pub returns : goal.returns
returns g c =
    let all = no_end c.loop.invariant
    (omega (arith, c.loop-test.false, c.loop.auto.counter-end)) in
    (all.0, all.1, all.2.0, all.2.1, ap (λ (found : Found). found.addresses) all.2.2)
