use Rattle.show_core.proofs.Terms.{ap, inr}
use Rattle.show_core.proofs.Tables.{value_seen, none_seen, sorted_set, set_seen}
use Rattle.show_core.proofs.table.Table.get_mut.Goals as goal

pub invariant_of-self-lent : goal.invariant_of-self-lent
invariant_of-self-lent g c =
    sorted_set g.met.K.Key.compared _ c.self.view_is c.self.invariant
    (rw c.deref.ensures.value at c.in-Ok.ensures.found) c.index_mut.ensures.value

pub returns-in-Ok : goal.returns-in-Ok
returns-in-Ok g c =
    let at = rw c.deref.ensures.value at c.in-Ok.ensures.found in
    let is = c.index_mut.ensures.value in (
      simp (set_seen g.met.K.Key.compared _ c.self.view_is c.self.invariant at is),
      record {
        writes_back = tt;
        value = value_seen g.met.K.Key.compared _ c.self.view_is c.self.invariant at is;
      },
    )

pub returns-in-Err : goal.returns-in-Err
returns-in-Err g c = (
  ap inr c.self.view_is,
  record {
    writes_back = tt;
    value = none_seen g.met.K.Key.compared _ c.self.view_is c.self.invariant
        (rw c.deref.ensures.value at c.in-Err.ensures.absent);
  },
)
