use Rattle.std.proofs.Common.{◌∙◌, ◌∷◌, [], List, ℕ, ap}
use Rattle.std.specs.Prelude.{codes}
use Rattle.uuid.specs.Text.{hyphenated_text, lower}
use Rattle.remarks.specs.Refusals.{other_file}
use Rattle.remarks.specs.Remarks.{remark_of}
use Rattle.remarks.proofs.refusal.of_cid.Goals as goal

pub returns : goal.returns
returns c =
    let told = λ (theirs ours : List ℕ). remark_of (codes "the record has " ∷ theirs
    ∷ codes ", and the night " ∷ ours ∷ codes ": give the CID of the record" ∷ other_file ∷ []) in
    record {
      line = c.line_of.ensures;
      remark =
          c.join.ensures ∙ ap (λ cid. told cid c.part-2.result.now) (c.part.ensures
          ∙ c.encode_lower.ensures.text
          ∙ ap (hyphenated_text lower) (c.hyphenated-theirs.ensures ∙ c.from_bytes.ensures))
          ∙ ap (told (hyphenated_text lower c.args.head.now.cid)) (c.part-2.ensures
          ∙ c.encode_lower-2.ensures.text
          ∙ ap (hyphenated_text lower) (c.hyphenated-ours.ensures ∙ c.from_bytes-2.ensures));
    }
