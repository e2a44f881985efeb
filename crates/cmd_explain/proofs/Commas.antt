-- A comma between two digits, looked for byte by byte.
use Rattle.cmd_explain.proofs.Terms.{◌≡◌, ◌∙◌, ℕ, ◌+◌, ◌≤◌, ◌<◌, ◌==◌, ◌||◌, false, cond, List, []}
use Rattle.cmd_explain.proofs.Terms.{◌∷◌, length, drop, get_or, refl, sym, ap, arith, drop_more}
use Rattle.cmd_explain.proofs.Terms.{has_decimal_comma, is_decimal}

module _ (line : List ℕ) (i j k d : ℕ) (second : j ≡ i + 1) (third : k ≡ j + 1)
    (within : k < length line) where
  two : drop j line ≡ get_or line j d ∷ get_or line k d ∷ drop (k + 1) line
  two =
      drop_more line j d (omega (arith, third, within))
      ∙ ap (λ n. get_or line j d ∷ drop n line) (sym third)
      ∙ ap (λ rest. get_or line j d ∷ rest) (drop_more line k d within)

  -- bytes from one on have such a comma as their first three say, or those from the next one on
  pub comma_at : has_decimal_comma (drop i line)
      ≡ cond (get_or line i d == 33) false
      (is_decimal (get_or line i d) (get_or line j d) (get_or line k d)
      || has_decimal_comma (drop j line))
  comma_at =
      ap has_decimal_comma (drop_more line i d (omega (arith, second, third, within))
      ∙ ap (λ n. get_or line i d ∷ drop n line) (sym second)
      ∙ ap (λ rest. get_or line i d ∷ rest) two)
      ∙ ap (λ rest. cond (get_or line i d == 33) false
      (is_decimal (get_or line i d) (get_or line j d) (get_or line k d) || has_decimal_comma rest))
      (sym two)

-- two bytes have none
pub too_few : (bytes : List ℕ) → length bytes ≤ 2 → has_decimal_comma bytes ≡ false
too_few [] within = refl
too_few (a ∷ []) within = refl
too_few (a ∷ b ∷ []) within = refl
too_few (a ∷ b ∷ c ∷ rest) within = absurd (omega (arith, within))
