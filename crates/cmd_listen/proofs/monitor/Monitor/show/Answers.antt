use Rattle.cmd_listen.proofs.Terms.{◌∙◌, ap, refl, sym, ◌++◌, on_ok_weaker, shown_slots, line_head}
use Rattle.cmd_listen.proofs.Results.{grown}
use Rattle.cmd_listen.proofs.Stood.{look_other, look_same, no_later}
use Rattle.cmd_listen.proofs.monitor.Monitor.show.Goals as goal

pub returns-then-eq : goal.returns-then-eq
returns-then-eq c = λ k s.
    look_same c.args.moment c.args.self.now k c.slots.new.out c.args.text.now.items s
    (c.slots.ensures k.heard s.receiver_stands ∙ ap (shown_slots k.heard)
    (c.max.ensures ∙ no_later _ _ _ (c.now.ensures.last k.heard s.receiver_stands) s.late))
    (sym c.eq.ensures ∙ c.if-eq.true)

pub returns : goal.returns
returns c = on_ok_weaker c.extend_from_slice.result (λ is k s.
    look_other c.args.moment c.args.self.now _ k c.args.text.now.items c.push_head.new.text.items
    c.extend_from_slice.new.self.items s refl
    (c.slots.ensures k.heard s.receiver_stands ∙ ap (shown_slots k.heard)
    (c.max.ensures ∙ no_later _ _ _ (c.now.ensures.last k.heard s.receiver_stands) s.late))
    (sym c.eq.ensures ∙ c.if-eq.false)
    (c.in_ok-push_head.ensures ∙ ap (λ h. c.args.text.now.items ++ line_head h) c.head.ensures)
    (is ∙ ap (λ l. c.push_head.new.text.items ++ l)
    (c.as_bytes.ensures.value ∙ c.as_str.ensures.value ∙ c.slots_line.ensures)))
    (grown c.extend_from_slice.result c.extend_from_slice.new.self.items
    c.push_head.new.text.items c.as_bytes.result.now c.extend_from_slice.ensures.items)
