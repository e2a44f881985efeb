use Rattle.cmd_cues.proofs.Terms.{◌≡◌, ◌∙◌, ◌++◌, ap, codes, decimal, string_text, label_by}
use Rattle.cmd_cues.proofs.Terms.{record_in}
use Rattle.std.specs.FinMap as maps
use Rattle.cmd_cues.proofs.Items.{behind}
use Rattle.cmd_cues.proofs.json.push_master.Goals as goal

pub returns : goal.returns
returns c =
    let old = c.args.text.now.items in
    let said = c.args.labels.now.lines.items in
    let a : c.extend_from_slice.new.self.items ≡ old ++ codes "{\"number\":" =
    c.in_ok-extend_from_slice.ensures.items in
    let b : c.extend_from_slice-2.new.self.items
    ≡ c.push_number.new.out.items ++ codes ",\"label\":" =
    c.in_ok-extend_from_slice-2.ensures.items in
    let d : c.push_string.new.text.items
    ≡ c.extend_from_slice-2.new.self.items
    ++ string_text (label_by said (record_in c.args.of c.args.number)) =
    c.in_ok-push_string.ensures
    ∙ ap (λ l. c.extend_from_slice-2.new.self.items ++ string_text l)
    (c.label.ensures ∙ ap (label_by said) c.record.ensures) in
    let e : c.extend_from_slice-3.new.self.items
    ≡ c.push_string.new.text.items ++ codes ",\"channels\":" =
    c.in_ok-extend_from_slice-3.ensures.items in
    let f : c.push_number-2.new.out.items
    ≡ c.extend_from_slice-3.new.self.items ++ decimal (maps.len c.args.levels.now) =
    c.in_ok-push_number-2.ensures
    ∙ ap (λ n. c.extend_from_slice-3.new.self.items ++ decimal n) c.channel_count.ensures in
    let number : c.push_number.new.out.items
    ≡ c.extend_from_slice.new.self.items ++ decimal c.args.number =
    c.in_ok-push_number.ensures
    ∙ ap (λ n. c.extend_from_slice.new.self.items ++ decimal n) c.from.ensures in
    behind old _ _ _ _ (behind old _ _ _ _ (behind old _ _ _ _ (behind old _ _ _ _
    (behind old _ _ _ _ (behind old _ _ _ _ a number) b) d) e) f) c.in_ok-push.ensures.items
