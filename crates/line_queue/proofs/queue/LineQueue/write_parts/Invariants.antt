use Rattle.std.proofs.Common.{◌≡◌, ◌≤◌, ◌+◌, ◌*◌, []}
use Rattle.line_queue.specs.Stands.{HasRoom, Keeps, TakesMore, dropped_in, notice_in}
use Rattle.line_queue.specs.Stands.{waiting_in}
use Rattle.line_queue.proofs.queue.LineQueue.write_parts.Given as goal

-- so many parts were written, each after a wait
abbrev pub invariant-loop : goal.invariant-loop
invariant-loop g l = record {
  told : g.P.Pipe.tells l.self.pipe → g.P.Pipe.tells l.initial.self.pipe;
  stands : g.P.Pipe.tells l.self.pipe → TakesMore [] l.initial.self
      (g.P.Pipe.tape l.initial.self.pipe) l.self (g.P.Pipe.tape l.self.pipe);
  kept : g.P.Pipe.tells l.self.pipe → HasRoom l.initial.self []
      → Keeps [] l.initial.self (g.P.Pipe.tape l.initial.self.pipe) l.self
      (g.P.Pipe.tape l.self.pipe);
  writes : g.P.Pipe.tells l.self.pipe → (g.P.Pipe.tape l.self.pipe).writes
      ≡ (g.P.Pipe.tape l.initial.self.pipe).writes + l.counter;
  wait : g.P.Pipe.tells l.self.pipe → (g.P.Pipe.tape l.self.pipe).wait
      ≡ (g.P.Pipe.tape l.initial.self.pipe).wait + l.milliseconds * l.counter;
  no_drop : dropped_in l.self ≤ dropped_in l.initial.self;
  notice : notice_in l.self ≡ notice_in l.initial.self;
  empty : waiting_in l.initial.self ≡ [] → l.self ≡ l.initial.self;
}
