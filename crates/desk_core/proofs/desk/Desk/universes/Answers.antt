use Rattle.desk_core.proofs.Terms.{◌≡◌, ◌++◌, length, sym, subst, ap, ◌∙◌, IsTrue, arith, All, IsOk}
use Rattle.desk_core.proofs.Terms.{IsStrictlyIncreasing, is_base, is_universe, universe_numbers}
use Rattle.desk_core.proofs.Universes.{numbers_in, numbers_rise, when_ok}
use Rattle.desk_core.proofs.desk.Desk.universes.Goals as goal

pub returns-clause-numbers : goal.returns-clause-numbers
returns-clause-numbers g c =
    let call = c.try_extend_from_slice-fits in
    let inside = c.self.inside in
    let given : c.as_slice.result.now ≡ universe_numbers inside.show.patch inside.rig.base =
    c.as_slice.ensures.value ∙ c.self.invariant.universes_are in
    let fits : IsOk call.result = call.ensures.variant.1 (omega (
      arith,
      c.as_slice.ensures.fits,
      ap length c.new-numbers.ensures,
    )) in
    let appended : call.new.self.items ≡ c.new-numbers.result.items ++ c.as_slice.result.now =
    when_ok call.result fits call.ensures.ok in
    appended ∙ ap (λ xs. xs ++ c.as_slice.result.now) c.new-numbers.ensures
    ∙ given ∙ ap (λ d. universe_numbers d.show.patch d.base) c.self.view_is

pub returns-clause-ascending : goal.returns-clause-ascending
returns-clause-ascending g c = subst IsStrictlyIncreasing (sym (returns-clause-numbers g c))
    (numbers_rise c.args.self.now.show.patch c.args.self.now.base)

pub returns-clause-range : goal.returns-clause-range
returns-clause-range g c =
    subst (All (λ number. IsTrue (is_universe number))) (sym (returns-clause-numbers g c))
    (numbers_in c.args.self.now.show.patch c.args.self.now.base
    (subst (λ d. IsTrue (is_base d.show.patch d.base)) c.self.view_is c.self.invariant.base_in))
