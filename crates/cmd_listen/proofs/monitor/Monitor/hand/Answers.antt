use Rattle.cmd_listen.proofs.Terms.{◌∙◌, sym, ap, refl, on_ok_weaker, with_one_more}
use Rattle.cmd_listen.proofs.Stood.{met_ignored, met_taken}
use Rattle.cmd_listen.proofs.monitor.Monitor.hand.Goals as goal

pub returns-in-Ok : goal.returns-in-Ok
returns-in-Ok c = on_ok_weaker c.keep.result (λ kept k s.
    met_taken c.args.moment c.args.datagram.now c.args.self.now c.keep.new.self c.take.new.self k _
    c.args.text.now.items c.keep.new.text.items s
    (sym c.in-Ok.is ∙ c.take.ensures.answer k.heard s.receiver_stands)
    (c.take.ensures.heard k.heard s.receiver_stands) c.take.ensures.universe kept.1 kept.2 kept.0)
    c.keep.ensures

pub returns-in-Err : goal.returns-in-Err
returns-in-Err c = λ k s.
    met_ignored c.args.moment c.args.datagram.now c.args.self.now _ c.take.new.self k
    c.in-Err.reason c.args.text.now.items s
    (sym c.in-Err.is ∙ c.take.ensures.answer k.heard s.receiver_stands)
    (c.take.ensures.heard k.heard s.receiver_stands) c.take.ensures.universe refl
    (c.count.ensures ∙ ap (λ place. with_one_more place c.args.self.now.counts)
    c.ignored_place.ensures.place)
