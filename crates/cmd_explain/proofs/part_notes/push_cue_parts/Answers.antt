use Rattle.cmd_explain.proofs.Terms.{◌≡◌, ◌∙◌, ◌++◌, ℕ, Bool, true, cond, List, [], flat_map, sym}
use Rattle.cmd_explain.proofs.Terms.{ap, rules, is_some, list_any, take_all, CuePart, first_times}
use Rattle.cmd_explain.proofs.Terms.{last_times, part_of, part_note, cue_part_notes, times_or}
use Rattle.cmd_explain.proofs.Terms.{Times}
use Rattle.cmd_explain.proofs.PartLists.{of_cue, tell_more, tell_same}
use Rattle.cmd_explain.proofs.part_notes.push_cue_parts.Goals as goal
use Rattle.cmd_explain.proofs.part_notes.push_cue_parts.Goals.{then-part-cue+in_ok-push_part}
use Rattle.cmd_explain.proofs.part_notes.push_cue_parts.Goals.{else-part-cue}

whole_text : (parts : List CuePart) (named : Bool) (first last : Times)
    → named ≡ list_any (λ p. is_some p.name) parts → named ≡ true
    → first ≡ first_times parts → last ≡ last_times parts
    → flat_map (λ p. part_note p (times_or p.times first) last) parts ≡ cue_part_notes parts
whole_text parts named first last has is firsts lasts =
    let tell = λ (f : Times) (l : Times) (p : CuePart). part_note p (times_or p.times f) l in
    ap (λ f. flat_map (tell f last) parts) firsts
    ∙ ap (λ l. flat_map (tell (first_times parts) l) parts) lasts
    ∙ ap (λ b. cond b (flat_map (tell (first_times parts) (last_times parts)) parts) [])
    (sym is ∙ has)

pub loop-part-preserved : goal.loop-part-preserved
loop-part-preserved c =
    let cue = c.args.cue in
    let parts = c.args.parts.now in
    let i = c.loop-part.part-index in
    let p = c.part-item.result in
    let old : List ℕ = c.args.out.now.items in
    let first = c.first_times-first.result in
    let last = c.last_times-last.result in
    let tell = λ (q : CuePart). part_note q (times_or q.times first) last in
    elim c.if-part-cue.branch [
      | then-part-cue+in_ok-push_part w ↦
          tell_more cue parts i p c.loop-part-test.true c.part-item.is w.if-part-cue.true tell old
          c.loop-part.invariant
          (ap (λ v. v.items) w.out-is ∙ w.in_ok-push_part.ensures
          ∙ ap (λ t. c.loop-part.out.items ++ part_note (part_of p) t last) w.or.ensures)
      | else-part-cue w ↦
          ap (λ v. v.items) w.out-is
          ∙ tell_same cue parts i p c.loop-part-test.true c.part-item.is w.if-part-cue.false tell
          old c.loop-part.invariant
    ]

pub returns : goal.returns
returns c =
    let cue = c.args.cue in
    let parts = c.args.parts.now in
    let i = c.loop-part.part-index in
    let old : List ℕ = c.args.out.now.items in
    let first = c.first_times-first.result in
    let last = c.last_times-last.result in
    let tell = λ (q : CuePart). part_note q (times_or q.times first) last in
    let named : c.has_named_part.result ≡ true = search rules in
    c.loop-part.invariant
    ∙ ap (λ ps. old ++ flat_map tell (of_cue cue ps)) (take_all i parts c.loop-part-test.false)
    ∙ ap (λ t. old ++ t) (whole_text (of_cue cue parts) c.has_named_part.result first last
    c.has_named_part.ensures named c.first_times-first.ensures c.last_times-last.ensures)
