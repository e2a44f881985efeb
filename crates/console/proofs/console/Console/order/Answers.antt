use Rattle.std.proofs.lemmas.Result.{on_ok_weaker}
use Rattle.console.proofs.Ticks.{streams_ordered}
use Rattle.console.proofs.console.Console.order.Goals as goal

pub returns-clause-answer : goal.returns-clause-answer
returns-clause-answer g c = rw (← c.self.view_is) (λ p history stands.
    c.order.ensures.answer p.show p.base history stands.desk_stands)

pub returns-clause-stands : goal.returns-clause-stands
returns-clause-stands g c = on_ok_weaker c.order.result (λ desk.
    rw (← c.self.view_is) (λ p history stands. record {
      desk_stands = desk p.show p.base history stands.desk_stands;
      streams_stand = streams_ordered p _ c.args.moment c.args.instruction history
          stands.streams_stand;
    })) c.order.ensures.stands
