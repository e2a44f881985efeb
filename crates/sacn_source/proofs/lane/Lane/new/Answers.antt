use Rattle.sacn_source.proofs.lane.Lane.new.Goals as goal

pub returns-clause-stands : goal.returns-clause-stands
returns-clause-stands c = record {
  paces = c.new.ensures;
  packet = (0, 0, rw c.header.ensures.fields at c.encode.ensures);
}
