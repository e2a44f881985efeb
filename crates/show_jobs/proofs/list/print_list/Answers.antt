use Rattle.show_jobs.proofs.list.print_list.Goals as goal

pub returns-then-is_json-clause-prints : goal.returns-then-is_json-clause-prints
returns-then-is_json-clause-prints g c = rw c.if-is_json.true c.cues_json.ensures.prints

pub returns-else-is_json-clause-prints : goal.returns-else-is_json-clause-prints
returns-else-is_json-clause-prints g c = rw c.if-is_json.false c.cues.ensures.prints
