-- Universes that are read one behind the other.
use Rattle.std.proofs.Common.{ℕ, ◌+◌, ◌<◌, List, [], ◌∷◌, ◌++◌, Ok, Err, Bor, ◌≡◌, ◌∙◌, sym, ap}
use Rattle.std.proofs.Common.{drop, get_or, length, map, refl, take}
use Rattle.std.specs.Prelude.{fold}
use Rattle.std.proofs.lemmas.List.{drop_more, map-append, take-append-drop, take_more}
use Rattle.std.proofs.lemmas.List.Sums.{fold-append}
use Rattle.clap.specs.Words.{Text}
use Rattle.cmd_words.specs.Watched.{read_universes, with_universe}
use Rattle.cmd_words.specs.declared.misfit.Form.{Form}

-- a misfit stays the first one
stays : (misfit : Text × Form × Text) (texts : List Text)
    → fold with_universe (Err misfit) texts ≡ Err misfit
stays misfit [] = refl
stays misfit (text ∷ rest) = stays misfit rest

module _ (xs : List (Bor Text)) (i : ℕ) (d : Bor Text) (inside : i < length xs) (list : List ℕ)
    (so_far : read_universes (map (λ text. text.now) (take i xs)) ≡ Ok list) where
  -- one more text
  pub one_more : read_universes (map (λ text. text.now) (take (i + 1) xs))
      ≡ with_universe (Ok list) (get_or xs i d).now
  one_more =
      let now : Bor Text → Text = λ text. text.now in
      ap (λ texts. read_universes (map now texts)) (take_more xs i d inside)
      ∙ ap read_universes (map-append now (take i xs) (get_or xs i d ∷ []))
      ∙ fold-append with_universe (Ok []) (map now (take i xs)) ((get_or xs i d).now ∷ [])
      ∙ ap (λ r. with_universe r (get_or xs i d).now) so_far

  -- the first text that names none, or one once more
  pub stops : (misfit : Text × Form × Text)
      → with_universe (Ok list) (get_or xs i d).now ≡ Err misfit
      → read_universes (map (λ text. text.now) xs) ≡ Err misfit
  stops misfit is =
      let now : Bor Text → Text = λ text. text.now in
      let rest = drop (i + 1) xs in
      let split : xs ≡ take i xs ++ get_or xs i d ∷ rest = sym (take-append-drop i xs)
      ∙ ap (λ ys. take i xs ++ ys) (drop_more xs i d inside) in
      ap (λ ys. read_universes (map now ys)) split
      ∙ ap read_universes (map-append now (take i xs) (get_or xs i d ∷ rest))
      ∙ fold-append with_universe (Ok []) (map now (take i xs)) (map now (get_or xs i d ∷ rest))
      ∙ ap (λ r. fold with_universe r (map now (get_or xs i d ∷ rest))) so_far
      ∙ ap (λ r. fold with_universe r (map now rest)) is
      ∙ stays misfit (map now rest)
