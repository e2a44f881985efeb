use Rattle.cmd_listen.proofs.Terms.{◌∙◌, ◌≤◌, ◌<◌, ap, sym, arith, append-nil, get_or, flat_map}
use Rattle.cmd_listen.proofs.Terms.{◌++◌, length, take_all, MonitorStands, known_after, new_known}
use Rattle.cmd_listen.proofs.Terms.{told_text}
use Rattle.cmd_listen.proofs.Lists.{half_all, half_at, half_more, zip_length}
use Rattle.cmd_listen.proofs.Texts.{told_more}
use Rattle.cmd_listen.proofs.monitors.take_all.Goals as goal

pub loop-i-init : goal.loop-i-init
loop-i-init c = λ t known zip le.
    (record { front = tt; back = zip }, sym (append-nil c.args.text.now.items))

pub loop-i-preserved : goal.loop-i-preserved
loop-i-preserved c = λ t known zip le.
    let before = c.loop-i.invariant t known zip le in
    let i = c.loop-i.i in
    let elem = c.index-monitors-i.result in
    let none = new_known 0 in
    let inside : i < length c.loop-i.monitors = omega arith in
    let all = zip_length (MonitorStands t) c.args.monitors.now known zip in
    let here = half_at (MonitorStands t) i c.loop-i.monitors known elem none inside before.0.back in
    let next = c.in_ok-take.ensures t (get_or known i none) here le in (
      half_more (MonitorStands c.args.instant.moment) (MonitorStands t)
          (known_after c.args.instant c.args.datagram.now) i c.loop-i.monitors known c.take.new.self
          elem none inside before.0 (λ _. next.0),
      next.1 ∙ told_more (told_text c.args.instant c.args.datagram.now) c.loop-i.text.items
          c.args.text.now.items known i none (omega (arith, all)) before.1,
    )

pub returns : goal.returns
returns c = λ t known zip le.
    let half = c.loop-i.invariant t known zip le in
    let i = c.loop-i.i in
    let all = zip_length (MonitorStands t) c.args.monitors.now known zip in
    let long : length c.loop-i.monitors ≤ i = omega arith in (
      half_all (MonitorStands c.args.instant.moment) (MonitorStands t)
          (known_after c.args.instant c.args.datagram.now) i c.loop-i.monitors known long
          (omega (arith, all)) half.0,
      half.1 ∙ ap (λ l. c.args.text.now.items
          ++ flat_map (told_text c.args.instant c.args.datagram.now) l)
          (take_all i known (omega (arith, all))),
    )
