-- Targets that are read one behind the other.
use Rattle.std.proofs.Common.{ℕ, ◌+◌, ◌<◌, List, [], ◌∷◌, ◌++◌, Option, Some, None, Result, Ok, Err}
use Rattle.std.proofs.Common.{Bor, ◌≡◌, ◌∙◌, sym, ap, drop, get_or, length, map, refl, take}
use Rattle.std.proofs.lemmas.List.{drop_more, map-append, take-append-drop, take_more}
use Rattle.clap.specs.Words.{Text}
use Rattle.cmd_words.specs.Target.{read_all, read_first, target_of}
use Rattle.targets.specs.declared.target.Target.{Target}

-- the targets of texts, behind those of others
abbrev behind : List Target → Result (List Target) Text → Result (List Target) Text
behind targets (Ok more) = Ok (targets ++ more)
behind targets (Err text) = Err text

abbrev read : Result (List Target) Text → List Target
read (Ok targets) = targets
read (Err text) = []

behind-none : (r : Result (List Target) Text) → r ≡ behind [] r
behind-none (Ok more) = refl
behind-none (Err text) = refl

-- texts that are all read are read in front of others
read_behind : (texts more : List Text) (targets : List Target) → read_all texts ≡ Ok targets
    → read_all (texts ++ more) ≡ behind targets (read_all more)
read_behind [] more targets is =
    behind-none (read_all more) ∙ ap (λ r. behind (read r) (read_all more)) is
read_behind (text ∷ rest) more targets is =
    go (target_of text) (read_all rest) is (λ ts e. read_behind rest more ts e)
  where
    front : (target : Target) (ts : List Target) (r : Result (List Target) Text)
        → read_first text (Some target) (behind ts r) ≡ behind (target ∷ ts) r
    front target ts (Ok more) = refl
    front target ts (Err other) = refl

    go : (o : Option Target) (r : Result (List Target) Text) → read_first text o r ≡ Ok targets
        → ((ts : List Target) → r ≡ Ok ts → read_all (rest ++ more) ≡ behind ts (read_all more))
        → read_first text o (read_all (rest ++ more)) ≡ behind targets (read_all more)
    go None r e later = cc
    go (Some target) (Err other) e later = cc
    go (Some target) (Ok ts) e later = ap (read_first text (Some target)) (later ts refl)
        ∙ front target ts (read_all more) ∙ ap (λ r. behind (read r) (read_all more)) e

module _ (xs : List (Bor Text)) (i : ℕ) (d : Bor Text) (inside : i < length xs)
    (targets : List Target)
    (so_far : read_all (map (λ text. text.now) (take i xs)) ≡ Ok targets) where
  -- one more text with a target
  pub one_more : (target : Target) → target_of (get_or xs i d).now ≡ Some target
      → read_all (map (λ text. text.now) (take (i + 1) xs)) ≡ Ok (targets ++ target ∷ [])
  one_more target is =
      ap (λ texts. read_all (map (λ text. text.now) texts)) (take_more xs i d inside)
      ∙ ap read_all (map-append (λ text. text.now) (take i xs) (get_or xs i d ∷ []))
      ∙ read_behind (map (λ text. text.now) (take i xs)) ((get_or xs i d).now ∷ []) targets so_far
      ∙ ap (λ o. behind targets (read_first (get_or xs i d).now o (Ok []))) is

  -- the first text without one
  pub stops : target_of (get_or xs i d).now ≡ None
      → read_all (map (λ text. text.now) xs) ≡ Err (get_or xs i d).now
  stops is =
      let rest = drop (i + 1) xs in
      let now : Bor Text → Text = λ text. text.now in
      let split : xs ≡ take i xs ++ get_or xs i d ∷ rest = sym (take-append-drop i xs)
      ∙ ap (λ ys. take i xs ++ ys) (drop_more xs i d inside) in
      ap (λ ys. read_all (map now ys)) split
      ∙ ap read_all (map-append now (take i xs) (get_or xs i d ∷ rest))
      ∙ read_behind (map now (take i xs)) (map now (get_or xs i d ∷ rest)) targets so_far
      ∙ ap (λ o. behind targets (read_first (get_or xs i d).now o (read_all (map now rest)))) is
