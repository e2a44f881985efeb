use Rattle.cmd_explain.proofs.Terms.{◌≡◌, ◌∙◌, ◌++◌, List, ℕ, OnOk, ap, subst, append_assoc}
use Rattle.cmd_explain.proofs.Terms.{fun_ext, decimal, decimal_text, dark_channels, dark_cues}
use Rattle.cmd_explain.proofs.Terms.{dark_notes, is_listed, is_marked, is_patched, list_note}
use Rattle.std.specs.FinMap as maps
use Rattle.std.specs.Prelude.{codes}
use Rattle.cmd_explain.proofs.show_notes.push_dark.Goals as goal

pub returns : goal.returns
unfolding dark_notes
returns c =
    let show = c.args.show.now in
    let old : List ℕ = c.args.out.now.items in
    let of_cues = list_note (codes "cues of which no channel is patched:") decimal_text in
    let of_channels = list_note (codes "channels of cues that are patched nowhere:") decimal in
    let patched : is_marked c.patched_channels-patched.result ≡ is_patched show.patch =
    fun_ext c.patched_channels-patched.ensures in
    let listed
    : is_marked c.listed_channels-listed.result ≡ is_listed show.cues (maps.keys show.cues) =
    fun_ext c.listed_channels-listed.ensures ∙ ap (is_listed show.cues) c.requires in
    let cues
    : c.as_slice.result.now ≡ dark_cues (is_patched show.patch) show.cues (maps.keys show.cues) =
    c.as_slice.ensures.value ∙ c.in_ok-dark.ensures
    ∙ ap (λ p. dark_cues p show.cues c.args.cues.now) patched
    ∙ ap (dark_cues (is_patched show.patch) show.cues) c.requires in
    let channels
    : c.as_slice-2.result.now
    ≡ dark_channels (is_listed show.cues (maps.keys show.cues)) (is_patched show.patch) =
    c.as_slice-2.ensures.value ∙ c.in_ok-channels.ensures
    ∙ ap (λ l. dark_channels l (is_marked c.patched_channels-patched.result)) listed
    ∙ ap (dark_channels (is_listed show.cues (maps.keys show.cues))) patched in
    subst (λ t. OnOk c.push_channel_list.result (c.push_channel_list.new.out.items ≡ t))
    (ap (λ t. t ++ of_channels c.as_slice-2.result.now) (c.in_ok-push_cue_list.ensures
    ∙ ap (λ ns. old ++ of_cues ns) cues)
    ∙ ap (λ ns. (old ++ of_cues (dark_cues (is_patched show.patch) show.cues (maps.keys show.cues)))
    ++ of_channels ns) channels
    ∙ append_assoc old _ _)
    c.push_channel_list.ensures
