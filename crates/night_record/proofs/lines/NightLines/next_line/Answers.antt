use Rattle.std.proofs.Common.{◌≡◌, ◌+◌, ◌++◌, ap, ◌∙◌}
use Rattle.std.proofs.Common.{refl, length, take, min, arith, length-append}
use Rattle.night_record.specs.WholeLines.{front_of}
use Rattle.night_record.specs.Coming.{unseen_bytes}
use Rattle.night_record.proofs.Coming.{next_given, none_left, seen_all, seen_more}
use Rattle.night_record.proofs.lines.NightLines.next_line.Goals as goal

pub returns-in_default-clause-none : goal.returns-in_default-clause-none
returns-in_default-clause-none c _ text given few s =
    let old = c.args.self.now in
    none_left old _ text given c.in_default.ensures (seen_all old.block old.came)
    (c.keep_front.ensures
    ∙ ap (λ l. front_of (l.items ++ unseen_bytes old)) c.take-line.ensures.value)
    (omega arith) refl s

pub returns-clause-line : goal.returns-clause-line
returns-clause-line c text given few s =
    let old = c.args.self.now in
    let size = ap length s.came ∙ length-append s.looked_at (unseen_bytes old) in
    let fits : min (old.place + (old.seen + (c.in-Some.length + 1))) 18446744073709551615
    ≡ old.place + (old.seen + (c.in-Some.length + 1))
    = omega (arith, size, s.place, few, c.in-Some.ensures.0.high) in
    next_given old _ c.in-Some.length text given _ c.in-Some.ensures
    (seen_more old.block old.seen old.came c.in-Some.length c.in-Some.ensures.0.high)
    (c.keep_front-2.ensures
    ∙ ap (λ l. front_of (l.items ++ take c.in-Some.length (unseen_bytes old)))
    c.take-line.ensures.value)
    c.take-line.ensures.after (omega arith) (c.saturating_add-self.ensures ∙ fits) s
