use Rattle.std.proofs.Common.{refl, ◌∙◌, sym, inl}
use Rattle.cmd_live.specs.declared.follow.Pause.TheVariants.{Asked, Ended}
use Rattle.cmd_live.specs.declared.main_console.Led.TheVariants.{Line, Where, End}
use Rattle.cmd_live.proofs.Leading.{led_more, led_none, over_behind, pauses_at}
use Rattle.cmd_live.proofs.night.Night.follow.Goals as goal

pub loop-turn-init : goal.loop-turn-init
loop-turn-init g c = led_none g.F.Fader.stands_for _ _ _ _ _ _ _ _ _ (λ tells. tells)
    (λ tells. tells) c.requires.ready (λ tells. refl) (λ tells. refl)

pub recall-requires-clause-real : goal.recall-requires-clause-real
recall-requires-clause-real g c =
    let real = c.requires.real in
    (real.0, _, c.loop-turn.invariant.takes.stands real.0 real.1.lines real.1.stands)

pub returns-in-Where-clause-follows : goal.returns-in-Where-clause-follows
returns-in-Where-clause-follows g c =
    let so_far = c.loop-turn.invariant in
    pauses_at g.F.Fader.stands_for _ _ _ _ _ _ _ _ _ _ _ so_far _ _ Where Asked
    c.next.ensures.told (λ tells. c.in-Where.ensures.gives tells)
    (so_far.since, refl, so_far.are_lines)

pub returns-in-End-clause-follows : goal.returns-in-End-clause-follows
returns-in-End-clause-follows g c =
    let so_far = c.loop-turn.invariant in
    pauses_at g.F.Fader.stands_for _ _ _ _ _ _ _ _ _ _ _ so_far _ _ End Ended
    c.next.ensures.told (λ tells. c.in-End.ensures.gives tells)
    (inl (so_far.since, refl, so_far.are_lines))

pub returns-then-is_over-clause-follows : goal.returns-then-is_over-clause-follows
returns-then-is_over-clause-follows g c =
    let is = c.if-not-recall.ensures in
    over_behind g.F.Fader.stands_for _ _ _ _ _ _ _ _ _ _ _
    (led_more g.F.Fader.stands_for _ _ _ _ _ _ _ _ _ _ _ _ _ _ _ _ (Line c.in-Line.line)
    c.as_slice.result.now c.loop-turn.invariant c.next.ensures.told is.told
    (sym c.as_slice.ensures.value, tt) (λ tells. c.in-Line.ensures.gives tells) (is.stands refl)
    (is.recalls refl) (is.offers refl) (is.ready refl))
    (λ h stands. sym (c.is_over.ensures h stands) ∙ c.if-is_over.true)

pub loop-turn-preserved : goal.loop-turn-preserved
loop-turn-preserved g c =
    let is = c.if-not-recall.ensures in
    led_more g.F.Fader.stands_for _ _ _ _ _ _ _ _ _ _ _ _ _ _ _ _ (Line c.in-Line.line)
    c.as_slice.result.now c.loop-turn.invariant c.next.ensures.told is.told
    (sym c.as_slice.ensures.value, tt) (λ tells. c.in-Line.ensures.gives tells) (is.stands refl)
    (is.recalls refl) (is.offers refl) (is.ready refl)
