use Rattle.std.proofs.Common.{◌∙◌, [], append-nil, refl, sym}
use Rattle.line_queue.proofs.queue.LineQueue.new.Goals as goal

pub returns-clause-stands : goal.returns-clause-stands
returns-clause-stands g c = λ _ fresh. record {
  account = record {
    entries = [];
    untold = [];
    left = [];
    in_order = refl;
    whole = append-nil _ ∙ fresh.nothing;
    waits = λ _. (c.in_ok-with_capacity.ensures.items, refl);
    fault = sym (rw fresh.no_fault refl);
    count = rw fresh.nothing refl;
    gaps = refl;
  };
  told = λ _ _. refl;
}
