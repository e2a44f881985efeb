use Rattle.cmd_explain.proofs.Terms.{◌≡◌, ◌∙◌, ◌∷◌, Some, ap, sym, arith, words_of, desk_limits}
use Rattle.cmd_explain.proofs.Terms.{line_reading, heading_below, owner_of, unknown_count}
use Rattle.cmd_explain.proofs.Terms.{unknown_in, words_in}
use Rattle.cmd_explain.proofs.Lines.{keyword_is, statement_is}
use Rattle.cmd_explain.proofs.NoteLines.{few_unknown, has_words, heading_more, notes_more}
use Rattle.cmd_explain.proofs.NoteLines.{unknown_is}
use Rattle.cmd_explain.proofs.note_lines.LineNotes.take_line.Goals as goal

pub returns : goal.returns
returns c = λ lines was numbered.
    let bytes = c.args.line.bytes.now in
    let above = c.args.self.now.above in
    let reading = c.in-Some.reading in
    let added = c.in_ok-note.ensures in
    let read : Some reading ≡ line_reading desk_limits (owner_of above) (words_of bytes) =
    c.in-Some.ensures.means
    ∙ ap (λ o. line_reading desk_limits o (words_of bytes)) c.owner.ensures in
    let heads : c.below-below.result ≡ heading_below (words_in (bytes ∷ lines)) =
    c.below-below.ensures ∙ heading_more lines bytes above was.heads reading read in
    let one
    : c.unknown_in-unknown.result ≡ unknown_in (heading_below (words_in lines)) (words_of bytes) =
    c.unknown_in-unknown.ensures
    ∙ sym (unknown_is (owner_of above) above (words_of bytes) reading read)
    ∙ ap (λ h. unknown_in h (words_of bytes)) was.heads in
    let unknown : c.saturating_add-self.result ≡ unknown_count (bytes ∷ lines) =
    omega (
      arith,
      c.saturating_add-self.ensures,
      one,
      few_unknown (bytes ∷ lines),
      was.unknown_lines,
      added.unknown_lines,
      numbered,
      c.ranges.line,
    ) in
    notes_more lines bytes c.args.line.number reading.statement numbered
    (statement_is lines bytes above was.heads reading read) c.args.show.now reading.keyword
    (keyword_is lines bytes above was.heads reading read)
    (has_words (owner_of above) (words_of bytes) reading read) c.args.self.now c.note.new.self was
    c.begin_part.new.parts c.in_ok-begin_part.ensures added c.below-below.result heads
    c.saturating_add-self.result unknown
