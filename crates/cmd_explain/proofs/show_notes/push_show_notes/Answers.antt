use Rattle.cmd_explain.proofs.Terms.{◌≡◌, ◌∙◌, ◌++◌, List, ℕ, None, ap, append_assoc, decimal_text}
use Rattle.cmd_explain.proofs.Terms.{list_note, patch_notes, same_cues, show_notes}
use Rattle.std.specs.FinMap as maps
use Rattle.std.specs.Prelude.{codes}
use Rattle.cmd_explain.proofs.show_notes.push_show_notes.Goals as goal

pub returns : goal.returns
unfolding show_notes
returns c =
    let show = c.args.show.now in
    let old : List ℕ = c.args.out.now.items in
    let note = list_note (codes "cues that look as the one before:") decimal_text in
    let same : c.as_slice-3.result.now ≡ same_cues show.cues None (maps.keys show.cues) =
    c.as_slice-3.ensures.value ∙ c.in_ok-same.ensures
    ∙ ap (same_cues show.cues None) (c.as_slice-2.ensures.value ∙ c.in_ok-cues.ensures) in
    c.in_ok-push_cue_list.ensures
    ∙ ap (λ t. t ++ note c.as_slice-3.result.now) c.in_ok-push_patch_notes.ensures
    ∙ ap (λ ns. (old ++ patch_notes show) ++ note ns) same
    ∙ append_assoc old (patch_notes show) _
