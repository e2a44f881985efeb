use Rattle.std.proofs.Common.{Ok, [], ap, arith, length, length-append, sym, ◌+◌, ◌∙◌, ◌∷◌, ◌≡◌}
use Rattle.cmd_words.proofs.Targets.{one_more, stops}
use Rattle.cmd_words.proofs.arguments.read_targets.Goals as goal

pub returns-in_default : goal.returns-in_default
returns-in_default c = sym (stops c.args.texts.now c.loop-text.text-index _ c.loop-text-test.true
    c.loop-text.targets c.loop-text.invariant.1 (sym c.target.ensures ∙ c.in_default.is))

pub loop-text-preserved : goal.loop-text-preserved
loop-text-preserved c =
    let counted : length c.add.new.self ≡ length c.loop-text.targets + 1 = ap length c.add.ensures
    ∙ length-append c.loop-text.targets (c.in-Some.target ∷ []) in (
      omega (arith, counted, c.loop-text.invariant.0),
      one_more c.args.texts.now c.loop-text.text-index _ c.loop-text-test.true c.loop-text.targets
          c.loop-text.invariant.1 c.in-Some.target (sym c.target.ensures ∙ c.in-Some.is)
          ∙ ap Ok (sym c.add.ensures),
    )
