-- The lines of a stream are those of its whole text.
use Rattle.std.proofs.Common.{ℕ, List, [], ◌∷◌, ◌++◌, ◌≡◌, ◌∙◌, ◌==◌, Bool, true, false, cond, refl}
use Rattle.std.proofs.Common.{sym, ap, length, arith, append-nil, append_assoc}
use Rattle.std.specs.List.{fold, onto_first}
use Rattle.std.proofs.lemmas.Bool.Decides.{nat_tests}
use Rattle.std.proofs.lemmas.List.Sums.{fold-append}
use Rattle.ascii_text.specs.Text.{lines_of}
use Rattle.ascii_text.specs.Lines.{Cut, with_last_lf, cut_of, in_order, no_bytes, with_byte}

-- bytes in front of the first of some lines
abbrev onto : List ℕ → List (List ℕ) → List (List ℕ)
onto [] ls = ls
onto (b ∷ r) ls = onto_first b (onto r ls)

onto_line : (r l : List ℕ) (ls : List (List ℕ)) → onto r (l ∷ ls) ≡ (r ++ l) ∷ ls
onto_line [] l ls = refl
onto_line (b ∷ r) l ls = ap (onto_first b) (onto_line r l ls)

onto_none : (b : ℕ) (r : List ℕ) → onto (b ∷ r) [] ≡ (b ∷ r) ∷ []
onto_none b [] = refl
onto_none b (d ∷ r) = ap (onto_first b) (onto_none d r)

onto_more : (r : List ℕ) (b : ℕ) (ls : List (List ℕ)) →
    onto (r ++ b ∷ []) ls ≡ onto r (onto_first b ls)
onto_more [] b ls = refl
onto_more (d ∷ r) b ls = ap (onto_first d) (onto_more r b ls)

-- the lines, and those of more bytes
abbrev lines_with : Cut → List (List ℕ) → List (List ℕ)
lines_with c ls = in_order c.lines ++ onto c.rest ls

step : (c : Cut) (b : ℕ) (bs : List ℕ) → lines_with (with_byte c b) (lines_of bs)
    ≡ lines_with c (lines_of (b ∷ bs))
step c b bs = go (b == 10)
  where
    go : (t : Bool) → lines_with
        (cond t (record { lines = c.rest ∷ c.lines; rest = [] })
        (record { lines = c.lines; rest = c.rest ++ b ∷ [] })) (lines_of bs)
        ≡ lines_with c (cond t ([] ∷ lines_of bs) (onto_first b (lines_of bs)))
    go true = append_assoc (in_order c.lines) (c.rest ∷ []) (lines_of bs)
        ∙ ap (λ (l : List ℕ). in_order c.lines ++ l ∷ lines_of bs) (sym (append-nil c.rest))
        ∙ ap (λ ls. in_order c.lines ++ ls) (sym (onto_line c.rest [] (lines_of bs)))
    go false = ap (λ ls. in_order c.lines ++ ls) (onto_more c.rest b (lines_of bs))

lines_from : (c : Cut) (bytes : List ℕ) → lines_with (fold with_byte c bytes) []
    ≡ lines_with c (lines_of bytes)
lines_from c [] = refl
lines_from c (b ∷ bs) = lines_from (with_byte c b) bs ∙ step c b bs

not_zero : (b : ℕ) (r : List ℕ) → (length (b ∷ r) == 0) ≡ false
not_zero b r = grind (arith, nat_tests)

-- the bytes behind the last LF are the last line, where there are any
at_end : (bytes : List ℕ) (ls : List (List ℕ)) (r : List ℕ)
    → cut_of bytes ≡ record { lines = ls; rest = r }
    → in_order (cut_of (cond (length r == 0) bytes (bytes ++ 10 ∷ []))).lines
    ≡ in_order ls ++ onto r []
at_end bytes ls [] is = ap (λ (c : Cut). in_order c.lines) is ∙ sym (append-nil (in_order ls))
at_end bytes ls (b ∷ r) is =
    ap (λ t. in_order (cut_of (cond t bytes (bytes ++ 10 ∷ []))).lines) (not_zero b r)
    ∙ ap (λ (c : Cut). in_order c.lines) (fold-append with_byte no_bytes bytes (10 ∷ []))
    ∙ ap (λ (c : Cut). in_order (with_byte c 10).lines) is
    ∙ ap (λ l. in_order ls ++ l) (sym (onto_none b r))

pub lines_are : (bytes : List ℕ) → in_order (cut_of (with_last_lf bytes)).lines ≡ lines_of bytes
lines_are bytes =
    at_end bytes (cut_of bytes).lines (cut_of bytes).rest refl ∙ lines_from no_bytes bytes
