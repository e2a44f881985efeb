use Rattle.std.proofs.Common.{◌-◌, ap, ◌∙◌, length, nat_eq, nat_lt}
use Rattle.std.specs.List.{starts_with}
use Rattle.night_record.specs.Head.{head_text}
use Rattle.night_record.proofs.Heads.{at_first, at_none, at_second, front_seen, size_is}
use Rattle.night_record.proofs.opening.is_part_of_head.Goals as goal

pub returns-then-starts_with : goal.returns-then-starts_with
returns-then-starts_with c =
    let front = front_seen c.as_slice.result.now c.lines-head.result.items
    (head_text c.args.night.now) c.saturating_sub.result c.as_slice.ensures.value
    (c.saturating_sub.ensures ∙ ap (λ n. n - 25) c.len.ensures.value) c.lines-head.ensures in
    at_first _ _ _
    (c.starts_with.ensures.value ∙ ap (λ f. starts_with nat_eq f c.args.text.now) front)
    c.if-starts_with.true

pub returns-then-starts_with-2 : goal.returns-then-starts_with-2
returns-then-starts_with-2 c =
    let head = head_text c.args.night.now in
    let lines = c.lines-head.result.items in
    let text = c.args.text.now in
    let front = front_seen c.as_slice.result.now lines head c.saturating_sub.result
    c.as_slice.ensures.value
    (c.saturating_sub.ensures ∙ ap (λ n. n - 25) c.len.ensures.value) c.lines-head.ensures in
    at_second _ _ _ _ _ _
    (c.starts_with.ensures.value ∙ ap (λ f. starts_with nat_eq f text) front)
    c.if-starts_with.false
    (c.starts_with-else-starts_with.ensures.value ∙ ap (λ f. starts_with nat_eq text f) front)
    c.if-starts_with-2.true
    (ap (λ n. nat_lt (length text) n)
    (c.len-then-starts_with-2.ensures.value ∙ size_is lines head c.lines-head.ensures))

pub returns-else-starts_with-2 : goal.returns-else-starts_with-2
returns-else-starts_with-2 c =
    let text = c.args.text.now in
    let front = front_seen c.as_slice.result.now c.lines-head.result.items
    (head_text c.args.night.now) c.saturating_sub.result c.as_slice.ensures.value
    (c.saturating_sub.ensures ∙ ap (λ n. n - 25) c.len.ensures.value) c.lines-head.ensures in
    at_none _ _ _ _ _
    (c.starts_with.ensures.value ∙ ap (λ f. starts_with nat_eq f text) front)
    c.if-starts_with.false
    (c.starts_with-else-starts_with.ensures.value ∙ ap (λ f. starts_with nat_eq text f) front)
    c.if-starts_with-2.false
