use Rattle.cmd_explain.proofs.Terms.{◌≡◌, ◌∙◌, ◌∷◌, ◌+◌, ◌||◌, ℕ, true, Option, Some, None, Vec}
use Rattle.cmd_explain.proofs.Terms.{Global, drop, take, refl, sym, ap, is_some, option_map}
use Rattle.cmd_explain.proofs.Terms.{list_any, list_any-append, CuePart, part_of}
use Rattle.cmd_explain.proofs.PartLists.{first_of, of_cue}
use Rattle.cmd_explain.proofs.part_notes.has_named_part.Goals as goal

named_kept : (name : Option (Vec ℕ Global)) → is_some name ≡ true
    → is_some (option_map (λ bytes. bytes.items) name) ≡ true
named_kept None is = is
named_kept (Some bytes) is = refl

pub returns-then-is_some : goal.returns-then-is_some
returns-then-is_some c =
    let cue = c.args.cue in
    let parts = c.args.parts.now in
    let i = c.loop-part.part-index in
    let p = c.part-item.result in
    let rest = of_cue cue (drop (i + 1) parts) in
    let named = λ (q : CuePart). is_some q.name in
    let is : named (part_of p) ≡ true =
    named_kept p.name (sym c.is_some.ensures ∙ c.if-is_some.true) in
    sym (ap (list_any named)
    (first_of cue parts i p c.loop-part-test.true c.part-item.is c.if-part-cue.true)
    ∙ list_any-append named (of_cue cue (take i parts)) (part_of p ∷ rest)
    ∙ ap (λ b. b || (named (part_of p) || list_any named rest)) c.loop-part.invariant
    ∙ ap (λ b. b || list_any named rest) is)
