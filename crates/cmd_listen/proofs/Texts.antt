-- Texts that are made line by line.
use Rattle.cmd_listen.proofs.Terms.{◌≡◌, ℕ, ◌+◌, ◌<◌, ◌≤◌, List, ◌++◌, length, take, get_or}
use Rattle.cmd_listen.proofs.Terms.{flat_map, ap, sym, ◌∙◌, zero-add, append_assoc, flat_map_more}
use Rattle.cmd_listen.proofs.Terms.{take_all, take_more, get_or-enumerate_from}
use Rattle.cmd_listen.proofs.Terms.{length-enumerate_from, enumerate_from}

-- the texts of one element more
pub told_more : {A : Type 0} (f : A → List ℕ) (text front : List ℕ) (xs : List A) (i : ℕ) (d : A)
    → i < length xs → text ≡ front ++ flat_map f (take i xs)
    → text ++ f (get_or xs i d) ≡ front ++ flat_map f (take (i + 1) xs)
told_more f text front xs i d inside is =
    ap (λ t. t ++ f (get_or xs i d)) is ∙ flat_map_more f front (take i xs) (get_or xs i d)
    ∙ ap (λ l. front ++ flat_map f l) (sym (take_more xs i d inside))

-- the texts of one more of the numbered elements
pub count_more : (f : ℕ × ℕ → List ℕ) (text front xs : List ℕ) (i : ℕ) → i < length xs
    → text ≡ front ++ flat_map f (take i (enumerate_from 0 xs))
    → text ++ f (i, get_or xs i 0) ≡ front ++ flat_map f (take (i + 1) (enumerate_from 0 xs))
count_more f text front xs i inside is =
    let within : i < length (enumerate_from 0 xs) = rw (length-enumerate_from) inside in
    let here : get_or (enumerate_from 0 xs) i (0, 0) ≡ (i, get_or xs i 0) =
    get_or-enumerate_from 0 xs i (0, 0) inside ∙ ap (λ k. (k, get_or xs i 0)) (zero-add i) in
    ap (λ p. text ++ f p) (sym here)
    ∙ told_more f text front (enumerate_from 0 xs) i (0, 0) within is

-- the texts of all numbered elements
pub count_all : (f : ℕ × ℕ → List ℕ) (text front xs : List ℕ) (i : ℕ) → length xs ≤ i
    → text ≡ front ++ flat_map f (take i (enumerate_from 0 xs))
    → text ≡ front ++ flat_map f (enumerate_from 0 xs)
count_all f text front xs i all is =
    is ∙ ap (λ l. front ++ flat_map f l)
    (take_all i (enumerate_from 0 xs) (rw (length-enumerate_from) all))

-- three texts, one behind the other
pub three : (old a b c one two all : List ℕ) → one ≡ old ++ a → two ≡ one ++ b → all ≡ two ++ c
    → all ≡ old ++ (a ++ b ++ c)
three old a b c one two all first second third =
    third ∙ ap (λ t. t ++ c) (second ∙ ap (λ t. t ++ b) first ∙ append_assoc old a b)
    ∙ append_assoc old (a ++ b) c
