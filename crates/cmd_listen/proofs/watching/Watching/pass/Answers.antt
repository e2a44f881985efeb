use Rattle.cmd_listen.proofs.Terms.{◌≡◌, ◌∙◌, ap, sym, refl, length, take_at, length-map}
use Rattle.cmd_listen.proofs.Lists.{zip_length}
use Rattle.cmd_listen.proofs.Passing.{passes}
use Rattle.cmd_listen.proofs.watching.Watching.pass.Goals as goal

pub returns : goal.returns
returns c = λ w s le.
    passes c.args.instant c.args.datagram.now c.args.self.now _ w c.args.text.now.items
    c.tell_counts.new.text.items c.take_all.new.text.items c.tell_counts.new.counts s refl
    c.in_ok-tell_counts.ensures.1 (rw c.as_slice.ensures.value at c.count_stray.ensures)
    c.in_ok-tell_counts.ensures.0 (λ zip.
    let e = c.in_ok-take_all.ensures w.moment w.universes
    (rw c.as_mut_slice.ensures.value zip) le in
    let same : length c.take_all.new.monitors ≡ c.args.self.now.monitors.len =
    zip_length _ _ _ e.0 ∙ length-map w.universes _ ∙ sym (zip_length _ _ _ zip)
    ∙ sym (ap length c.as_mut_slice.ensures.value) ∙ c.as_mut_slice.ensures.len in
    (rw (take_at c.take_all.new.monitors _ c.args.self.now.monitors.len same) e.0, e.1))
