use Rattle.cmd_explain.proofs.Terms.{◌≡◌, ◌∙◌, ◌++◌, List, ℕ, ap, append_assoc, cr_text}
use Rattle.cmd_explain.proofs.Terms.{encoding_notes, has_cr_alone, has_mark, is_utf_16, mark_text}
use Rattle.cmd_explain.proofs.Terms.{note_if, utf_16_text}
use Rattle.cmd_explain.proofs.encoding.push_encoding.Goals as goal

pub returns : goal.returns
unfolding encoding_notes
returns c =
    let text : List ℕ = c.args.text.now in
    let old : List ℕ = c.args.out.now.items in
    let a : List ℕ = note_if (has_mark text) mark_text in
    let b : List ℕ = note_if (is_utf_16 text) utf_16_text in
    let d : List ℕ = note_if (has_cr_alone text) cr_text in
    let first : c.push_if.new.out.items ≡ old ++ a =
    c.in_ok-push_if.ensures ∙ ap (λ applies. old ++ note_if applies mark_text) c.has_mark.ensures in
    let second : c.push_if-2.new.out.items ≡ old ++ a ++ b =
    c.in_ok-push_if-2.ensures ∙ ap (λ t. t ++ note_if c.is_utf_16.result utf_16_text) first
    ∙ ap (λ applies. old ++ a ++ note_if applies utf_16_text) c.is_utf_16.ensures in
    c.in_ok-push_if-3.ensures ∙ ap (λ t. t ++ note_if c.has_cr_alone.result cr_text) second
    ∙ ap (λ applies. old ++ a ++ b ++ note_if applies cr_text) c.has_cr_alone.ensures
    ∙ ap (λ t. t ++ d) (append_assoc old a b) ∙ append_assoc old (a ++ b) d
