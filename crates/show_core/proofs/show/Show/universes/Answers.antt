use Rattle.show_core.proofs.Terms.{◌≡◌, ℕ, zero, suc, ◌+◌, Bool, cond, [], ◌∷◌, ◌++◌, refl, ap, ◌∙◌}
use Rattle.show_core.proofs.Terms.{arith, filter, range_with_len, common_steps, filter-append}
use Rattle.show_core.proofs.Terms.{has_dimmer_in}
use Rattle.show_core.proofs.show.Show.universes.Goals as goal
use Rattle.show_core.proofs.show.Show.universes.Goals.{then-has_dimmer_in, else-has_dimmer_in}

range_more : (a n : ℕ) → range_with_len a (suc n) ≡ range_with_len a n ++ (a + n) ∷ []
range_more a zero = let e : a + 0 ≡ a = omega arith in rw e refl
range_more a (suc n) =
    let e : a + 1 + n ≡ a + suc n = omega arith in
    ap (λ xs. a ∷ xs) (range_more (a + 1) n ∙ rw e refl)

filter_more : (p : ℕ → Bool) (n : ℕ)
    → filter p (range_with_len 0 (n + 1)) ≡ filter p (range_with_len 0 n) ++ cond (p n) (n ∷ []) []
filter_more p n =
    let e : n + 1 ≡ suc n = omega arith in
    let f : 0 + n ≡ n = omega arith in
    ap (λ m. filter p (range_with_len 0 m)) e ∙ ap (filter p) (range_more 0 n)
    ∙ filter-append p (range_with_len 0 n) ((0 + n) ∷ [])
    ∙ ap (λ k. filter p (range_with_len 0 n) ++ cond (p k) (k ∷ []) []) f

pub loop-ordinal-preserved : goal.loop-ordinal-preserved
loop-ordinal-preserved c =
    let more = filter_more (has_dimmer_in c.args.self.now.patch) c.loop-ordinal.ordinal in
    elim c.if-has_dimmer_in.branch [
      | then-has_dimmer_in w ↦ grind (arith, common_steps, more)
      | else-has_dimmer_in w ↦ grind (arith, common_steps, more)
    ]
