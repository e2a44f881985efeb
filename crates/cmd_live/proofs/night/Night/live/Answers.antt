use Rattle.std.proofs.Common.{inl, inr, length-append, refl, arith, [], ◌++◌}
use Rattle.cmd_live.proofs.Living.{began_at, lived, lived_whole}
use Rattle.cmd_live.proofs.night.Night.live.Goals as goal

pub returns-in-Ok-clause-lived : goal.returns-in-Ok-clause-lived
returns-in-Ok-clause-lived g c = λ p first stands booth link.
    rw (
      began_at first _ _ _ (c.moment.ensures.value first stands.input_stands) c.min.ensures
          (c.begin.ensures.begins (c.in-Ok.ensures.told_booth booth)),
      ← c.if-self-eq0.true,
    )
    (lived_whole g.F.Fader.stands_for _ _ _ _ _ c.in-Ok.ensures.goes p first stands
    c.requires.none_lost (booth, link) (c.in-Ok.ensures.over p))

pub returns-in-Ok-2-clause-lived : goal.returns-in-Ok-2-clause-lived
returns-in-Ok-2-clause-lived g c = λ p first stands booth link. (
  omega (arith, c.if-self-eq0.false),
  rw (began_at first _ _ _ (c.moment.ensures.value first stands.input_stands) c.min.ensures
      (c.begin.ensures.begins (c.in-Ok-2.ensures.told_booth booth)))
      (lived_whole g.F.Fader.stands_for _ _ _ _ _ c.in-Ok-2.ensures.goes p first stands
      c.requires.none_lost (booth, link) (c.in-Ok-2.ensures.over p)),
)

pub returns-in-Err-clause-lived : goal.returns-in-Err-clause-lived
returns-in-Err-clause-lived g c = λ p first stands booth link.
    rw (began_at first _ _ _ (c.moment.ensures.value first stands.input_stands) c.min.ensures
    (c.begin.ensures.begins (c.in-Err.ensures.told_booth booth)))
    (elim c.in-Err.ensures.broke [
      | inl broke ↦ (
        broke.goes.since ++ [],
        c.run.new.self.lost,
        broke.middle,
        lived g.F.Fader.stands_for _ _ _ _ _ broke.goes p first stands c.requires.none_lost
            (booth, link),
        inl (broke.fails_at (booth, link)),
      )
      | inr worn ↦ (
        worn.goes.since ++ [],
        c.run.new.self.lost,
        g.B.Booth.state c.run.new.booth,
        lived g.F.Fader.stands_for _ _ _ _ _ worn.goes p first stands c.requires.none_lost
            (booth, link),
        inr (refl, omega (arith, worn.turned, length-append worn.goes.since [])),
      )
    ])
