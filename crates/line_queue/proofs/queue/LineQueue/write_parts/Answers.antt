use Rattle.std.proofs.Common.{◌≡◌, ◌≤◌, ◌<◌, ◌+◌, ◌*◌, ◌++◌, ◌∙◌, [], add-one, ap, append-nil}
use Rattle.std.proofs.Common.{arith, length, refl, subst, vec_len}
use Rattle.std.proofs.Math.Nat.{mul-suc}
use Rattle.std.proofs.lemmas.Grind.{common_steps}
use Rattle.line_queue.specs.Pipes.{lasting_failure}
use Rattle.line_queue.specs.Stands.{StandsFor, waiting_in}
use Rattle.line_queue.proofs.Accounting.{keeps_past, none_of, same_but_pipe, same_stands}
use Rattle.line_queue.proofs.queue.LineQueue.write_parts.Goals as goal

pub loop-preserved : goal.loop-preserved
loop-preserved g c =
    let before = c.loop.invariant in
    let wrote = c.write_part.ensures in
    let asked = c.takes_bytes.ensures in
    let new = c.write_part.new.self in record {
      told = λ tells. before.told (asked.told (wrote.told tells));
      stands = λ tells given stands.
          let told = wrote.told tells in
          let tape = asked.tape told in
          let so_far = before.stands (asked.told told) given stands in
          let same = same_stands c.loop.self _ (g.P.Pipe.tape c.loop.self.pipe)
          (g.P.Pipe.tape c.takes_bytes.new.self) (given ++ []) (same_but_pipe c.loop.self _)
          (ap (λ t. t.taken) tape) (ap (λ t. lasting_failure t.fault) tape) so_far in
          subst (λ lines. StandsFor new (g.P.Pipe.tape new.pipe) lines) (append-nil (given ++ []))
          (wrote.stands tells (given ++ []) same);
      kept = λ tells room.
          let told = wrote.told tells in
          let tape = asked.tape told in
          let mid = c.loop.self in
          let some : 0 < vec_len mid.waiting = grind (arith, common_steps) in
          let alive = none_of mid.failure _ mid.over some in
          let so_far = before.kept (asked.told told) room in
          let none = (so_far.waits alive).1 in
          let fits : length (waiting_in mid) + 0 ≤ 65536 = grind (arith, common_steps) in
          keeps_past (wrote.kept tells
          (record { no_failure = alive; none_dropped = none; fits = fits }))
          c.args.self.now mid (g.P.Pipe.tape c.args.self.now.pipe) (g.P.Pipe.tape mid.pipe) refl
          (ap (λ t. t.taken) tape) alive so_far;
      writes = λ tells.
          let told = wrote.told tells in
          let same = ap (λ t. t.writes) (asked.tape told) in
          omega (arith, wrote.once tells, same, before.writes (asked.told told));
      wait = λ tells.
          let told = wrote.told tells in
          let waited = ap (λ t. t.wait) (asked.tape told) in
          let times : c.args.milliseconds * (c.loop.counter + 1)
          ≡ c.args.milliseconds * c.loop.counter + c.args.milliseconds = rw
          (add-one, mul-suc) refl in
          omega (arith, wrote.no_wait tells, waited, before.wait (asked.told told), times);
      no_drop = omega arith;
      notice = wrote.notice ∙ before.notice;
      empty = λ none. let still : waiting_in c.loop.self ≡ [] = ap waiting_in
          (before.empty none) ∙ none in
          absurd (grind (arith, common_steps));
    }
