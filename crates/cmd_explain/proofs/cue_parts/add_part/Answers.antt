use Rattle.cmd_explain.proofs.Terms.{◌∙◌, ◌∷◌, ℕ, List, Option, Vec, Global, ap, map, reverse}
use Rattle.cmd_explain.proofs.Terms.{option_map, CuePart, new_part, part_of}
use Rattle.cmd_explain.proofs.PartLists.{newest_more}
use Rattle.cmd_explain.proofs.cue_parts.add_part.Goals as goal

pub returns : goal.returns
returns c =
    let rest : List CuePart = reverse (map part_of c.args.parts.now.items) in
    let name : Option (List ℕ) = option_map (λ (bytes : Vec ℕ Global). bytes.items) c.args.name in
    let part : CuePart = new_part c.args.cue c.args.line name in
    ap (λ ps. reverse (map part_of ps)) c.in_ok-push.ensures.items
    ∙ newest_more c.args.parts.now.items _
    ∙ ap (λ t. record part { times = t; pairs = c.new.result.items } ∷ rest) c.none.ensures
    ∙ ap (λ ps. record part { pairs = ps } ∷ rest) c.new.ensures.items
