use Rattle.std.proofs.Common.{◌≤◌, ap, sym, subst, arith}
use Rattle.fade_core.specs.Plain.{Makes}
use Rattle.fade_core.proofs.plain.PlainFaderFader.advance.Goals as goal

pub returns-clause-stands : goal.returns-clause-stands
returns-clause-stands c = λ starts stands channel moment none from_one in_range later.
    let before = ap (λ f. f.latest) c.self.view_is in
    let not_before : c.self.inside.latest ≤ moment =
    omega (arith, before, c.requires.not_before) in
    subst (λ f. Makes f starts) (sym c.self.view_is) stands channel moment none from_one in_range
    not_before
