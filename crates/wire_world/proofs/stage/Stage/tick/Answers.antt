use Rattle.std.proofs.Common.{refl}
use Rattle.wire_world.proofs.Linked.{answer_is, leaves}
use Rattle.wire_world.proofs.stage.Stage.tick.Goals as goal

pub returns : goal.returns
returns g c = let left = leaves g.F.Fader.stands_for c.args.self.now
    (record {
      console = c.tick-answer.new.self;
      link = c.shelve.new.link;
      shelves = c.shelve.new.shelves;
      last = c.args.self.now.last;
    })
    c.args.moment c.tick-answer.new.link c.tick-answer.ensures.told c.shelve.ensures.tells refl
    c.shelve.ensures.empty c.shelve.ensures.rest c.tick-answer.result
    c.tick-answer.ensures.offered c.tick-answer.ensures.stands c.tick-answer.ensures.unchanged
    c.tick-answer.ensures.quiet in
    record {
      answer = λ p h s tells. answer_is c.tick-answer.result _ _ _
          (c.tick-answer.ensures.answer p h s.console_stands) (left.0 p h s tells);
      stands = left.1;
      kept = left.2;
      gone = c.shelve.ensures.gone;
      last = refl;
    }
