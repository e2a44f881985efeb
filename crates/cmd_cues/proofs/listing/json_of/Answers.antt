use Rattle.cmd_cues.proofs.Terms.{◌≡◌, subst, take, reverse, IfOk, lines_of, json_text}
use Rattle.cmd_cues.proofs.Labelling.{all_labels}
use Rattle.cmd_cues.proofs.listing.json_of.Goals as goal

pub returns : goal.returns
returns c =
    let lines = reverse (take c.args.loaded.now.lines (lines_of c.args.show.now)) in
    let labels = all_labels lines c.in_ok-labels.labels.lines.items c.in_ok-labels.ensures in
    subst (λ label. IfOk c.json_text.result
    (λ text. text.items ≡ json_text label c.args.loaded.now.show)) labels c.json_text.ensures
