use Rattle.std.proofs.Common.{Ok, ap, arith, length, length-append, sym, ◌+◌, ◌∙◌, ◌∷◌, ◌≡◌, ◌≤◌}
use Rattle.std.proofs.Common.{[]}
use Rattle.std.proofs.lemmas.List.Elements.{All-push}
use Rattle.std.proofs.lemmas.Result.{err_from_is_err_and}
use Rattle.cmd_words.proofs.Watched.{one_more, stops}
use Rattle.cmd_words.proofs.arguments.read_universes.Goals as goal

pub returns-in_err-universe-clause-value : goal.returns-in_err-universe-clause-value
returns-in_err-universe-clause-value c =
    let r = err_from_is_err_and c.from_residual.result c.from_residual.ensures.1 in
    rw (r.1, r.2) (sym (stops c.args.texts.now c.loop-text.text-index _ c.loop-text-test.true
    c.loop-text.list c.loop-text.invariant.1 _ (sym c.in_err-universe.ensures.value)))

pub loop-text-preserved : goal.loop-text-preserved
loop-text-preserved c =
    let counted : length c.add.new.self ≡ length c.loop-text.list + 1 = ap length c.add.ensures
    ∙ length-append c.loop-text.list (c.in_ok-universe.universe ∷ []) in (
      omega (arith, counted, c.loop-text.invariant.0),
      one_more c.args.texts.now c.loop-text.text-index _ c.loop-text-test.true c.loop-text.list
          c.loop-text.invariant.1 ∙ sym c.in_ok-universe.ensures.value ∙ ap Ok (sym c.add.ensures),
      rw (c.add.ensures) (All-push (λ u. (1 ≤ u) × (u ≤ 63999)) c.loop-text.list
          c.in_ok-universe.universe c.loop-text.invariant.2 c.in_ok-universe.ensures.within),
    )
