-- The texts of numbers from 1 on.
use Rattle.std.proofs.Common.{◌≡◌, ◌≤◌, ◌+◌, ◌-◌, ℕ, sym, ap, ◌∙◌, arith, List, ◌∷◌, [], ◌++◌}
use Rattle.std.proofs.Common.{append-nil, append_assoc}
use Rattle.std.specs.Prelude.{codes, flat_map}
use Rattle.std.specs.List.{range_with_len}
use Rattle.std.proofs.lemmas.Grind.{flat_map-append}
use Rattle.std.proofs.lemmas.List.{map-id}
use Rattle.std.proofs.lemmas.List.FromFn.{map-range_with_len_more}
use Rattle.master_core.specs.Settings.{Setting, group_after, sub_after}
use Rattle.console.specs.WhereLine.{groups_text, master_text, subs_text}

one_more : (k n : ℕ) → 1 + k ≡ n
    → range_with_len 1 (k + 1) ≡ range_with_len 1 k ++ n ∷ []
one_more k n e = sym (map-id (range_with_len 1 (k + 1)))
    ∙ map-range_with_len_more (λ (x : ℕ). x) 1 k n e
    ∙ ap (λ ns. ns ++ n ∷ []) (map-id (range_with_len 1 k))

-- a text to which that of one number more is added
pub number_more : (f : ℕ → List ℕ) (front before after : List ℕ) (n : ℕ) → 1 ≤ n
    → before ≡ front ++ flat_map f (range_with_len 1 (n - 1)) → after ≡ before ++ f n
    → after ≡ front ++ flat_map f (range_with_len 1 (n + 1 - 1))
number_more f front before after n low is more =
    let k : ℕ = n - 1 in
    let same : n + 1 - 1 ≡ k + 1 = omega (arith, low) in
    let one : 1 + k ≡ n = omega (arith, low) in
    more ∙ ap (λ text. text ++ f n) is
    ∙ append_assoc front (flat_map f (range_with_len 1 k)) (f n)
    ∙ ap (λ text. front ++ text)
    (ap (λ text. flat_map f (range_with_len 1 k) ++ text) (sym (append-nil (f n)))
    ∙ sym (flat_map-append f (range_with_len 1 k) (n ∷ []))
    ∙ ap (flat_map f) (sym (one_more k n one) ∙ ap (range_with_len 1) (sym same)))

-- and that of all submasters, or all groups
pub all_subs : (settings : List Setting) (front text : List ℕ) (n : ℕ) → n ≡ 101
    → text ≡ front ++ flat_map (λ n. master_text (codes "sub") n (sub_after settings n))
    (range_with_len 1 (n - 1)) → text ≡ front ++ subs_text settings
unfolding subs_text
all_subs settings front text n last is =
    is ∙ ap (λ k. front ++ flat_map (λ n. master_text (codes "sub") n (sub_after settings n))
    (range_with_len 1 (k - 1))) last

pub all_groups : (settings : List Setting) (front text : List ℕ) (n : ℕ) → n ≡ 501
    → text ≡ front ++ flat_map (λ n. master_text (codes "group") n (group_after settings n))
    (range_with_len 1 (n - 1)) → text ≡ front ++ groups_text settings
unfolding groups_text
all_groups settings front text n last is =
    is ∙ ap (λ k. front ++ flat_map (λ n. master_text (codes "group") n (group_after settings n))
    (range_with_len 1 (k - 1))) last
