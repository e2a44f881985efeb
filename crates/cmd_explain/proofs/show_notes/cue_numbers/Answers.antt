use Rattle.cmd_explain.proofs.Terms.{◌∙◌, ◌∷◌, ◌++◌, [], ℕ, List, map, refl, ap, sym, arith}
use Rattle.cmd_explain.proofs.Terms.{append_assoc, length-append, map-append, CueData}
use Rattle.std.specs.FinMap as maps
use Rattle.cmd_explain.proofs.Ascending.{all_done, first_above_0, next_cue, none_next}
use Rattle.cmd_explain.proofs.show_notes.cue_numbers.Goals as goal

pub loop-cue-init : goal.loop-cue-init
loop-cue-init c = (
  [],
  maps.entries c.args.show.now.cues,
  record {
    all = refl;
    count = refl;
    next =
        c.next-next.ensures
        ∙ first_above_0 (maps.entries c.args.show.now.cues) c.counts-cue-end.ensures.ranges.cues_in;
    numbers = c.new-numbers.ensures.items;
  },
)

pub loop-cue-preserved : goal.loop-cue-preserved
loop-cue-preserved c =
    let before = c.loop-cue.invariant in
    let done = before.0 in
    let number = c.in-Some.number in
    let at = next_cue c.args.show.now.cues done before.1 number before.2.all
    (sym before.2.next ∙ c.in-Some.is) in
    let one : List (ℕ × CueData) = (number, at.0) ∷ [] in (
      done ++ one,
      at.1,
      record {
        all = before.2.all ∙ ap (λ l. done ++ l) at.2.left_is ∙ sym (append_assoc done one at.1);
        count = omega (arith, length-append done one, before.2.count);
        next = c.next-next-in-loop-cue.ensures ∙ at.2.next;
        numbers =
            c.in_ok-push.ensures.items ∙ ap (λ ns. ns ++ number ∷ []) before.2.numbers
            ∙ sym (map-append (λ e. e.0) done one);
      },
    )

pub returns-in_default : goal.returns-in_default
returns-in_default c =
    let before = c.loop-cue.invariant in
    before.2.numbers
    ∙ ap (map (λ e. e.0)) (none_next c.args.show.now.cues before.0 before.1 before.2.all
    (sym before.2.next ∙ c.in_default.is))

pub returns : goal.returns
returns c =
    let before = c.loop-cue.invariant in
    before.2.numbers
    ∙ ap (map (λ e. e.0)) (all_done c.args.show.now.cues before.0 before.1 before.2.all
    (omega (arith, before.2.count, c.counts-cue-end.ensures.cues, c.loop-cue-test.false)))
