use Rattle.live_input.proofs.Terms.{refl, typed_kept}
use Rattle.live_input.proofs.Answering.{first_answered, line_answered, none_answered, none_first}
use Rattle.live_input.proofs.Answering.{some_first}
use Rattle.live_input.proofs.live.LiveInput.next.Goals as goal

pub returns-in-Some-clause-stands : goal.returns-in-Some-clause-stands
returns-in-Some-clause-stands c = rw (← c.self.view_is) (λ h s.
    let told = some_first _ _ (c.in-Some.ensures.tells _ s.leaves) in
    let is = first_answered c.args.moment (typed_kept c.self.inside.typed) s c.is_over.ensures
    c.if-is_over.false c.min.ensures c.max-self-inside.ensures told.0 refl told.1.0 in
    is.1 _ (rw told.1.0 at (c.in-Some.ensures.leaves _ s.leaves)))

pub returns-in-Some-clause-tells : goal.returns-in-Some-clause-tells
returns-in-Some-clause-tells c = rw (← c.self.view_is) (λ h s.
    let told = some_first _ _ (c.in-Some.ensures.tells _ s.leaves) in
    let is = first_answered c.args.moment (typed_kept c.self.inside.typed) s c.is_over.ensures
    c.if-is_over.false c.min.ensures c.max-self-inside.ensures told.0 refl told.1.0 in
    rw is.0 at told.1.1)

pub returns-in-Some-next_line-clause-tells : goal.returns-in-Some-next_line-clause-tells
returns-in-Some-next_line-clause-tells c = rw (← c.self.view_is) (λ h s.
    let first = none_first _ (c.in_default.ensures.tells _ s.leaves) in
    let leaves = rw first at (c.in_default.ensures.leaves _ s.leaves) in
    let is = line_answered c.args.moment (typed_kept c.next_line.new.self) s c.is_over.ensures
    c.if-is_over.false c.min.ensures c.max-self-inside.ensures _ first
    c.in-Some-next_line.ensures.takes in
    rw (c.as_slice-line.ensures.value, is.0) at (c.answer.ensures.tells _ leaves))

pub returns-in-Some-next_line-clause-stands : goal.returns-in-Some-next_line-clause-stands
returns-in-Some-next_line-clause-stands c = rw (← c.self.view_is) (λ h s.
    let first = none_first _ (c.in_default.ensures.tells _ s.leaves) in
    let leaves = rw first at (c.in_default.ensures.leaves _ s.leaves) in
    let is = line_answered c.args.moment (typed_kept c.next_line.new.self) s c.is_over.ensures
    c.if-is_over.false c.min.ensures c.max-self-inside.ensures _ first
    c.in-Some-next_line.ensures.takes in
    rw (c.has_keys-self-inside.ensures, c.as_slice-line.ensures.value)
    (is.1 _ (rw c.as_slice-line.ensures.value at (c.answer.ensures.leaves _ leaves))))

pub returns-in-None-clause-tells : goal.returns-in-None-clause-tells
returns-in-None-clause-tells c = rw (← c.self.view_is) (λ h s.
    let first = none_first _ (c.in_default.ensures.tells _ s.leaves) in
    let leaves = rw first at (c.in_default.ensures.leaves _ s.leaves) in
    let is = none_answered c.args.moment (typed_kept c.next_line.new.self) s c.is_over.ensures
    c.if-is_over.false c.min.ensures c.max-self-inside.ensures first c.in-None.ensures.takes
    c.in-None.ensures.none in
    rw is.0 at (c.by_itself.ensures.tells _ leaves))

pub returns-in-None-clause-stands : goal.returns-in-None-clause-stands
returns-in-None-clause-stands c = rw (← c.self.view_is) (λ h s.
    let first = none_first _ (c.in_default.ensures.tells _ s.leaves) in
    let leaves = rw first at (c.in_default.ensures.leaves _ s.leaves) in
    let is = none_answered c.args.moment (typed_kept c.next_line.new.self) s c.is_over.ensures
    c.if-is_over.false c.min.ensures c.max-self-inside.ensures first c.in-None.ensures.takes
    c.in-None.ensures.none in
    is.1 _ (c.by_itself.ensures.leaves _ leaves))
