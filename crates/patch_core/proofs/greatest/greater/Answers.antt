use Rattle.patch_core.proofs.Terms.{ap, ◌∙◌, ltb, length, get_or, w8, sel_l, tops_compared}
use Rattle.patch_core.proofs.Vectors.{length-most, get_or-most}
use Rattle.patch_core.proofs.greatest.greater.Goals as goal

pub returns-clause-long : goal.returns-clause-long
returns-clause-long c =
    ap (λ ms. length (sel_l ms c.args.b c.args.a)) (tops_compared w8 ltb c.args.a c.args.b)
    ∙ length-most c.args.a c.args.b c.requires.0 c.requires.1

pub returns-clause-each : goal.returns-clause-each
returns-clause-each c = λ lane lt.
    ap (λ ms. get_or (sel_l ms c.args.b c.args.a) lane 0) (tops_compared w8 ltb c.args.a c.args.b)
    ∙ get_or-most c.args.a c.args.b c.requires.0 c.requires.1 lane lt
