use Rattle.cmd_explain.proofs.Terms.{◌∙◌, ◌++◌, List, ℕ, ap, append_assoc, codes, decimal_text}
use Rattle.cmd_explain.proofs.line_notes.push_unfollowed.Goals as goal

pub returns : goal.returns
returns c =
    let old : List ℕ = c.args.out.now.items in
    let a : List ℕ = codes "LINK " in
    let b : List ℕ = decimal_text c.args.to in
    let d : List ℕ = codes " is not followed: GO goes " in
    c.in_ok-extend_from_slice-2.ensures.items
    ∙ ap (λ l. l ++ d)
    (c.in_ok-push_decimal.ensures ∙ ap (λ l. l ++ b) c.in_ok-extend_from_slice.ensures.items)
    ∙ ap (λ l. l ++ d) (append_assoc old a b) ∙ append_assoc old (a ++ b) d
