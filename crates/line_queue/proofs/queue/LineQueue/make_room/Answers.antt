use Rattle.std.proofs.Common.{arith, refl}
use Rattle.line_queue.proofs.Accounting.{keeps_all, none_more}
use Rattle.line_queue.proofs.queue.LineQueue.make_room.Goals as goal

pub returns-then-has_room-clause-takes : goal.returns-then-has_room-clause-takes
returns-then-has_room-clause-takes g c = record {
  told = λ tells. tells;
  notice = refl;
  stands = λ tells given stands. none_more c.args.self.now _ given stands;
  asks = λ tells. record {
    no_fewer = omega arith;
    few = omega arith;
    short = omega arith;
  };
  kept = λ _ room. keeps_all c.args.self.now _ _ _ refl room.none_dropped refl;
}
