use Rattle.live_input.proofs.Terms.{◌+◌, true, false, [], drop, typed_kept}
use Rattle.live_input.proofs.TypedLemmas.{is_next, next_byte, stands_byte, stands_line}
use Rattle.live_input.proofs.typed.TypedLines.take_byte.Goals as goal

pub returns-then-byte-ne10-clause-takes : goal.returns-then-byte-ne10-clause-takes
returns-then-byte-ne10-clause-takes c = λ bytes taken stands.
    let self = c.args.self.now in
    let next = next_byte self.came.items _ self.taken c.as_slice.ensures.value c.requires in
    rw c.look_at.ensures (stands_byte (typed_kept self) _ _ bytes taken next stands
    c.if-byte-ne10.true)

pub returns-then-says_nothing-clause-takes : goal.returns-then-says_nothing-clause-takes
returns-then-says_nothing-clause-takes c = λ bytes taken stands.
    let self = c.args.self.now in
    let next = next_byte self.came.items _ self.taken c.as_slice.ensures.value c.requires in
    rw c.take-line.ensures.after (stands_line (typed_kept self) _ _ bytes taken next stands true
    c.if-byte-ne10.false (cc))

pub returns-else-says_nothing-clause-takes : goal.returns-else-says_nothing-clause-takes
returns-else-says_nothing-clause-takes c = λ bytes taken stands.
    let self = c.args.self.now in
    let next = next_byte self.came.items _ self.taken c.as_slice.ensures.value c.requires in
    let ended = stands_line (typed_kept self) _ _ bytes taken next stands false
    c.if-byte-ne10.false (cc) in (
      rw c.take-line.ensures.value (is_next taken self.line.items []
          (drop (self.taken + 1) self.came.items) bytes ended),
      rw (c.take-line.ensures.after, c.take-line.ensures.value) ended,
    )
