use Rattle.live_input.proofs.Terms.{arith, ◌∙◌, sym, ◌∷◌, ◌++◌, [], bytes_decides, answers, asked}
use Rattle.live_input.proofs.Terms.{bytes_come, lines_answered, typed_again, typed_kept}
use Rattle.live_input.proofs.Recalling.{equal, if_none, left_none, line_left, no_call}
use Rattle.live_input.proofs.Recalling.{none_given, one_more, recalled_is, same_line}
use Rattle.live_input.proofs.Recalling.{stays_typed}
use Rattle.live_input.proofs.live.LiveInput.recall.Goals as goal

pub returns-in_default : goal.returns-in_default
returns-in_default c = record {
  recalls = tt;
  other = λ happened stands is. one_more c.args.line.now _
      (rw (no_call _ c.args.line.now happened
      (λ moment call e. c.in_default.not-At moment call (c.read_call.ensures ∙ e))) at is.given);
  drained = tt;
}

pub returns-in_default-next : goal.returns-in_default-next
returns-in_default-next c = record {
  recalls = tt;
  other = λ happened stands is.
      none_given c.args.line.now happened c.in-At.moment c.in-At.call
      (sym c.read_call.ensures ∙ c.in-At.is) c.next.result c.in_default-next.not-Line
      (c.next.ensures.tells _ (rw (c.as_slice.ensures.value, c.with_end-whole.ensures)
      at (c.type_again.ensures happened stands))) is;
  drained = tt;
}

pub returns-then-is_some-clause-other : goal.returns-then-is_some-clause-other
returns-then-is_some-clause-other c = λ happened stands is.
    let moment = c.in-At.moment in
    let call = c.in-At.call in
    let line = c.args.line.now in
    let then = asked moment ∷ typed_again moment call (line ++ 10 ∷ []) happened in
    let typed = rw (c.as_slice.ensures.value, c.with_end-whole.ensures)
    at (c.type_again.ensures happened stands) in
    let next = rw (← c.self.view_is) at (c.next.ensures.stands _ typed) in
    line_left (λ line. line.items) (typed_kept c.self.inside.typed)
    (typed_kept c.next_line.new.self) c.next_line.result c.next_line.ensures.takes
    (sym c.is_some.ensures ∙ c.if-is_some.true) (bytes_come then) (lines_answered (answers then))
    next.typed_stands
    (rw (recalled_is line happened moment call (sym c.read_call.ensures ∙ c.in-At.is))
    at is.none_left)

pub returns-clause-recalls : goal.returns-clause-recalls
returns-clause-recalls c = λ happened stands.
    let moment = c.in-At.moment in
    let call = c.in-At.call in
    let line = c.args.line.now in
    let reads = sym c.read_call.ensures ∙ c.in-At.is in
    let then = asked moment ∷ typed_again moment call (line ++ 10 ∷ []) happened in
    let typed = rw (c.as_slice.ensures.value, c.with_end-whole.ensures)
    at (c.type_again.ensures happened stands) in
    let next = rw (← c.self.view_is) at (c.next.ensures.stands _ typed) in
    let none = sym c.is_some.ensures ∙ c.if-is_some.false in
    let same = (bytes_decides c.as_slice-2.result.now c.as_slice-3.result.now).0
    (equal _ _ c.ne.ensures c.if-ne.false) in
    let is = same_line line happened moment call reads c.in-Line.given
    (rw c.in-Line.is at (c.next.ensures.tells _ typed)) c.as_slice-3.result.now
    (c.as_slice-3.ensures.value ∙ c.with_end-whole.ensures)
    (sym c.as_slice-2.ensures.value ∙ same) in
    let still = stays_typed (λ line. line.items) (typed_kept c.self.inside.typed)
    (typed_kept c.next_line.new.self) c.next_line.result c.next_line.ensures.takes none
    (bytes_come then) (lines_answered (answers then)) next.typed_stands in
    let recalled = recalled_is line happened moment call reads in
    record {
      stands = rw recalled (record {
        typed_stands = still;
        ends_is = next.ends_is;
        now_is = next.now_is;
        keys_is = next.keys_is;
        leaves = next.leaves;
      });
      is_given = is.0;
      is_recalled = record {
        short = omega (arith, c.if-line-gt200.false);
        given = is.1;
        none_left = rw recalled (left_none (typed_kept c.next_line.new.self) then still
            (if_none _ c.next_line.ensures.none none));
      };
    }
