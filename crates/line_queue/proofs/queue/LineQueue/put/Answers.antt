use Rattle.std.proofs.Common.{◌++◌, ◌∷◌, ◌∙◌, [], append-nil}
use Rattle.line_queue.proofs.Accounting.{keeps_on}
use Rattle.line_queue.proofs.Handed.{asked_twice, handed_behind}
use Rattle.line_queue.proofs.queue.LineQueue.put.Goals as goal

pub returns-clause-puts : goal.returns-clause-puts
returns-clause-puts g c =
    let took = c.take.ensures.takes in
    let handed = c.hand_on.ensures in
    let old = g.P.Pipe.tape c.args.self.now.pipe in
    let one = g.P.Pipe.tape c.take.new.self.pipe in
    let new = g.P.Pipe.tape c.hand_on.new.self.pipe in record {
      takes = record {
        told = λ tells. took.told (handed.takes.told tells);
        notice = handed.takes.notice ∙ took.notice;
        stands = λ tells given stands.
            let told = handed.takes.told tells in
            rw append-nil at (handed.takes.stands tells (given ++ c.args.line.now ∷ [])
            (took.stands told given stands));
        asks = λ tells. asked_twice old one new 16 16 (took.asks (handed.takes.told tells))
            (handed.takes.asks tells);
        kept = λ tells there.
            let told = handed.takes.told tells in
            let room = (c.take.ensures.kept there).2 in
            keeps_on c.args.line.now c.args.self.now c.take.new.self c.hand_on.new.self old one new
            room.no_failure (took.kept told there) (handed.takes.kept tells room);
      };
      handed = λ tells. handed_behind c.hand_on.new.self old one new 16
          (took.asks (handed.takes.told tells)).no_fewer (handed.done tells);
    }
