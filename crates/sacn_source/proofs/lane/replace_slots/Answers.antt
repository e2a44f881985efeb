use Rattle.std.proofs.Common.{◌≡◌, ◌∙◌, sym, ap, false, true, not}
use Rattle.std.specs.Prelude.{nat_eq}
use Rattle.std.specs.Cmp.Lexicographic.{pointwise, bytes_decides}
use Rattle.sacn_source.proofs.lane.replace_slots.Goals as goal

pub returns-then-eq-clause-differs : goal.returns-then-eq-clause-differs
returns-then-eq-clause-differs c = λ fields old h.
    let slots_are = c.slots_in.ensures fields old h in
    let same : pointwise nat_eq c.args.slots.now old ≡ true = cc in
    sym (ap not same)

pub returns-then-eq-clause-packet : goal.returns-then-eq-clause-packet
returns-then-eq-clause-packet c = λ fields old h.
    let slots_are = c.slots_in.ensures fields old h in
    let same = (bytes_decides c.as_slice.result.now c.slots_in.result.now).0
    (sym c.eq.ensures ∙ c.if-eq.true) in
    let is : old ≡ c.args.slots.now = cc in
    rw is at h

pub returns-clause-differs : goal.returns-clause-differs
returns-clause-differs c = λ fields old h.
    let slots_are = c.slots_in.ensures fields old h in
    let other : pointwise nat_eq c.args.slots.now old ≡ false = cc in
    sym (ap not other)
