-- Lists that are made place by place.
use Rattle.std.proofs.Common.{◌≡◌, ℕ, ◌+◌, ◌<◌, ◌≤◌, List, [], ◌∷◌, ◌++◌, length, take, get_or}
use Rattle.std.proofs.Common.{map, flat_map, ap, sym, ◌∙◌, zero-add}
use Rattle.std.proofs.lemmas.List.{flat_map_more, map_more, take_all, take_more}
use Rattle.std.proofs.lemmas.List.FromFn.{get_or-enumerate_from, length-enumerate_from}
use Rattle.std.specs.List.{enumerate_from}

-- the element at a place, with the place
at_place : {X : Type 0} (xs : List X) (i : ℕ) (d : X) → i < length xs
    → (i, get_or xs i d) ≡ get_or (enumerate_from 0 xs) i (0, d)
at_place {X} xs i d inside = sym (get_or-enumerate_from 0 xs i (0, d) inside
    ∙ ap {B = ℕ × X} (λ k. (k, get_or xs i d)) (zero-add i))

-- what one more place adds
pub place_more : {X A : Type 0} (f : ℕ × X → List A) (out front : List A) (xs : List X) (i : ℕ)
    (d : X) → i < length xs → out ≡ front ++ flat_map f (take i (enumerate_from 0 xs))
    → out ++ f (i, get_or xs i d) ≡ front ++ flat_map f (take (i + 1) (enumerate_from 0 xs))
place_more f out front xs i d inside is =
    let numbered = enumerate_from 0 xs in
    let within : i < length numbered = rw (length-enumerate_from) inside in
    ap (λ p. out ++ f p) (at_place xs i d inside)
    ∙ ap (λ l. l ++ f (get_or numbered i (0, d))) is
    ∙ flat_map_more f front (take i numbered) (get_or numbered i (0, d))
    ∙ ap (λ l. front ++ flat_map f l) (sym (take_more numbered i (0, d) within))

-- the same, where this is what is found there, and what is pushed for it
pub pushed_more : {X A : Type 0} (f : ℕ × X → List A) (out front new pushed : List A) (xs : List X)
    (i : ℕ) (d x : X) → i < length xs → out ≡ front ++ flat_map f (take i (enumerate_from 0 xs))
    → x ≡ get_or xs i d → pushed ≡ f (i, x) → new ≡ out ++ pushed
    → new ≡ front ++ flat_map f (take (i + 1) (enumerate_from 0 xs))
pushed_more f out front new pushed xs i d x inside is at gives behind =
    behind ∙ ap (λ l. out ++ l) (gives ∙ ap (λ x. f (i, x)) at)
    ∙ place_more f out front xs i d inside is

-- what all places give
pub place_all : {X A : Type 0} (f : ℕ × X → List A) (out front : List A) (xs : List X) (i : ℕ)
    → length xs ≤ i → out ≡ front ++ flat_map f (take i (enumerate_from 0 xs))
    → out ≡ front ++ flat_map f (enumerate_from 0 xs)
place_all f out front xs i all is =
    is ∙ ap (λ l. front ++ flat_map f l)
    (take_all i (enumerate_from 0 xs) (rw (length-enumerate_from) all))

-- the same, where each place gives one element
pub one_more : {X A : Type 0} (f : ℕ × X → A) (out : List A) (xs : List X) (i : ℕ) (d : X)
    → i < length xs → out ≡ map f (take i (enumerate_from 0 xs))
    → out ++ f (i, get_or xs i d) ∷ [] ≡ map f (take (i + 1) (enumerate_from 0 xs))
one_more f out xs i d inside is =
    let numbered = enumerate_from 0 xs in
    let within : i < length numbered = rw (length-enumerate_from) inside in
    ap (λ p. out ++ f p ∷ []) (at_place xs i d inside)
    ∙ ap (λ l. l ++ f (get_or numbered i (0, d)) ∷ []) is
    ∙ sym (map_more f numbered i (0, d) within)

pub one_all : {X A : Type 0} (f : ℕ × X → A) (out : List A) (xs : List X) (i : ℕ)
    → length xs ≤ i → out ≡ map f (take i (enumerate_from 0 xs))
    → out ≡ map f (enumerate_from 0 xs)
one_all f out xs i all is =
    is ∙ ap (map f) (take_all i (enumerate_from 0 xs) (rw (length-enumerate_from) all))
