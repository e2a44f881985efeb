use Rattle.cmd_cues.proofs.Terms.{◌≡◌, ◌∙◌, ◌++◌, ap, codes, Cue, string_text, label_by}
use Rattle.cmd_cues.proofs.Items.{behind}
use Rattle.cmd_cues.proofs.json.push_cue.Goals as goal

pub returns : goal.returns
returns c =
    let old = c.args.text.now.items in
    let label = label_by c.args.labels.now.lines.items (Cue c.args.cue.now.number) in
    let a : c.extend_from_slice.new.self.items ≡ old ++ codes "{\"number\":\"" =
    c.in_ok-extend_from_slice.ensures.items in
    let b : c.extend_from_slice-2.new.self.items
    ≡ c.push_decimal.new.out.items ++ codes "\",\"label\":" =
    c.in_ok-extend_from_slice-2.ensures.items in
    let d : c.push_string.new.text.items
    ≡ c.extend_from_slice-2.new.self.items ++ string_text label =
    c.in_ok-push_string.ensures
    ∙ ap (λ l. c.extend_from_slice-2.new.self.items ++ string_text l) c.label.ensures in
    let e : c.extend_from_slice-3.new.self.items
    ≡ c.push_rate-2.new.text.items ++ codes ",\"follow\":" =
    c.in_ok-extend_from_slice-3.ensures.items in
    let f : c.extend_from_slice-4.new.self.items
    ≡ c.push_follow.new.text.items ++ codes ",\"channels\":" =
    c.in_ok-extend_from_slice-4.ensures.items in
    let g : c.push.new.self.items ≡ c.push_number.new.out.items ++ codes "}" =
    c.in_ok-push.ensures.items in
    behind old _ _ _ _ (behind old _ _ _ _ (behind old _ _ _ _ (behind old _ _ _ _
    (behind old _ _ _ _ (behind old _ _ _ _ (behind old _ _ _ _ (behind old _ _ _ _
    (behind old _ _ _ _ (behind old _ _ _ _ a c.in_ok-push_decimal.ensures) b) d)
    c.in_ok-push_rate.ensures) c.in_ok-push_rate-2.ensures) e) c.in_ok-push_follow.ensures) f)
    c.in_ok-push_number.ensures) g
