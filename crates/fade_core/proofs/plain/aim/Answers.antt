use Rattle.std.proofs.Common.{◌≡◌, ◌+◌, ◌-◌, ◌*◌, ◌<◌, ◌∙◌, ap, sym, arith, inl, inr, length, get_or}
use Rattle.std.proofs.lemmas.Bool.{cases_lt}
use Rattle.std.proofs.lemmas.Grind.{get_or-set_at}
use Rattle.std.proofs.lemmas.List.{get_or-set_other, get_or_default}
use Rattle.std.proofs.lemmas.List.Elements.{All-set}
use Rattle.fade_core.specs.Level.{byte_of, split_fade}
use Rattle.fade_core.specs.Plain.{IsUnderway, level_in}
use Rattle.fade_core.proofs.plain.aim.Goals as goal

pub loop-place-preserved : goal.loop-place-preserved
loop-place-preserved c =
    let fades = c.loop-place.fades in
    let place = c.loop-place.place in
    let after = c.towards.result in
    let held = c.loop-place.invariant in
    let within : place < length fades =
    omega (arith, c.loop-place-test.true, c.loop-place.auto.fades) in
    record {
      levels = λ k later none lt. elim (cases_lt k place) [
        | inl below ↦
            ap (λ f. level_in f later) (get_or-set_other fades place k after none (omega arith))
            ∙ held.levels k later none below
        | inr le ↦
            let here : k ≡ place = omega arith in
            let before = get_or_default fades place _ none within
            ∙ ap (λ n. get_or fades n none) (sym here) ∙ held.rest k none le in
            let byte = c.byte_in-byte.ensures
            ∙ ap (λ n. byte_of c.args.look.now (n + 1)) (sym here) in
            ap (λ f. level_in f later) (get_or-set_at fades place k after none here within)
            ∙ c.towards.ensures.levels later
            ∙ ap (λ f. split_fade (level_in f c.args.moment) (255 * c.byte_in-byte.result)
            c.args.up c.args.down (later - c.args.moment)) before
            ∙ ap (λ b. split_fade (level_in (get_or c.args.fades.now k none) c.args.moment)
            (255 * b) c.args.up c.args.down (later - c.args.moment)) byte
      ];
      rest = λ k none le.
          get_or-set_other fades place k after none (omega arith)
          ∙ held.rest k none (omega arith);
      underway = All-set (IsUnderway c.args.moment) fades place after c.towards.ensures.underway
          held.underway;
    }
