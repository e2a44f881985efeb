use Rattle.std.proofs.Common.{◌≡◌, ℕ, ◌-◌, ◌^◌, ◌<◌, ◌≤◌, List, ◌∙◌, length, sym, ap, arith}
use Rattle.std.specs.Vec.{with_items}
use Rattle.std.proofs.lemmas.List.{with_items_is}
use Rattle.fade_core.specs.Level.{split_fade}
use Rattle.fade_core.specs.Share.{AreMoved, level_between}
use Rattle.fade_core.specs.Step.{step_view}
use Rattle.fade_core.specs.Fading.{Fading, IsFading, level_at}
use Rattle.fade_core.specs.Stepping.{LevelsStand, IsUnlisted}
use Rattle.fade_core.proofs.step.StepFader.step_to.Goals.{then-are_whole, else-are_whole}
use Rattle.fade_core.proofs.step.StepFader.step_to.Goals as goal

-- as a fade moves on
fading_moved : (f : Fading) (moment : ℕ) → f.latest ≤ moment → IsFading f
    → IsFading (record f { latest = moment })
fading_moved f moment le fading = record {
  same_length = fading.same_length;
  few = fading.few;
  from_full = fading.from_full;
  to_full = fading.to_full;
  in_order = omega (arith, fading.in_order, le);
}

stands_moved : (f : Fading) (levels new moving : List ℕ) (count left moment rising falling : ℕ)
    → IsFading f → LevelsStand f levels moving count → left ≤ count → length new ≡ length levels
    → AreMoved f.from f.to new rising falling
    → ((a b : ℕ) → a < 2 ^ 16 → b < 2 ^ 16
    → level_between a b rising falling ≡ split_fade a b f.up f.down (moment - f.began))
    → ((place : ℕ) → place < length f.from → IsUnlisted moving left place → (later : ℕ)
    → moment ≤ later → level_at f place later ≡ level_at f place moment)
    → LevelsStand (record f { latest = moment }) new moving left
stands_moved f levels new moving count left moment rising falling fading s fewer size are by stay =
    record {
      levels_length = size ∙ s.levels_length;
      moving_length = s.moving_length;
      count_in = omega (arith, s.count_in, fewer);
      listed = λ m lt. s.listed m (omega (arith, lt, fewer));
      levels_are = λ place lt. are place (omega (arith, lt, size, s.levels_length))
          ∙ by _ _ (omega (arith, fading.from_full place 0 lt))
          (omega (arith, fading.to_full place 0 (omega (arith, lt, fading.same_length))));
      others_stay = stay;
    }

pub bring-requires-clause-listed : goal.bring-requires-clause-listed
bring-requires-clause-listed c =
    let stands = c.self.invariant.stands in
    rw (c.deref-3.ensures.value, c.deref_mut.ensures.value, stands.levels_length) stands.listed

pub bring-requires-clause-others : goal.bring-requires-clause-others
bring-requires-clause-others c =
    let fading = c.self.invariant.fading in
    let stands = c.self.invariant.stands in
    let latest = ap (λ f. f.latest) c.self.view_is in
    rw (
      c.deref_mut.ensures.value,
      c.deref.ensures.value,
      c.deref-2.ensures.value,
      c.deref-3.ensures.value,
    ) (λ place lt unlisted.
    let within : place < length c.self.inside.from.items =
    omega (arith, lt, stands.levels_length) in
    stands.levels_are place within
    ∙ sym (stands.others_stay place within unlisted c.args.moment
    (omega (arith, latest, c.requires)))
    ∙ sym (c.at-shares.ensures.moved _ _ (omega (arith, fading.from_full place 0 within))
    (omega (arith, fading.to_full place 0 (omega (arith, within, fading.same_length))))))

pub invariant_of-self : goal.invariant_of-self
invariant_of-self c =
    let old = c.self.inside in
    let fading = c.self.invariant.fading in
    let stands = c.self.invariant.stands in
    let moment : ℕ = c.args.moment in
    let not_before : old.latest ≤ moment =
    omega (arith, ap (λ f. f.latest) c.self.view_is, c.requires) in
    let is = c.deref_mut.ensures.value in
    let written = with_items old.levels c.bring.new.levels in
    let kept : length c.bring.new.levels ≡ length old.levels.items =
    c.bring.auto.levels ∙ ap length is in
    let levels : written.items ≡ c.bring.new.levels =
    with_items_is old.levels c.bring.new.levels (omega (arith, kept, old.levels.ok.0)) in
    let size : length written.items ≡ length old.levels.items = ap length levels ∙ kept in
    let are : AreMoved old.from.items old.to.items written.items c.at-shares.result.rising
    c.at-shares.result.falling =
    rw (levels, ← c.deref.ensures.value, ← c.deref-2.ensures.value) c.bring.ensures in
    let now_fading = fading_moved (step_view old) moment not_before fading in
    elim c.if-are_whole.branch [
      | then-are_whole w ↦
          let whole = c.are_whole.ensures.0 w.if-are_whole.true in
          let over = c.at-shares.ensures.over whole.0 whole.1 in
          rw w.self-inside-is (record {
            fading = now_fading;
            stands = stands_moved _ _ _ _ _ 0 moment _ _ fading stands (omega arith) size are
                c.at-shares.ensures.moved (λ place lt _ later le.
                over _ _ (later - old.began) (omega (arith, le))
                ∙ sym (over _ _ (moment - old.began) (omega arith)));
          })
      | else-are_whole w ↦
          rw w.self-inside-is (record {
            fading = now_fading;
            stands = stands_moved _ _ _ _ _ _ moment _ _ fading stands (omega arith) size are
                c.at-shares.ensures.moved (λ place lt unlisted later le.
                stands.others_stay place lt unlisted later (omega (arith, le, not_before))
                ∙ sym (stands.others_stay place lt unlisted moment not_before));
          })
    ]
