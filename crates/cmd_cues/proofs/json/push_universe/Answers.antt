use Rattle.cmd_cues.proofs.Terms.{◌≡◌, ◌∙◌, ◌+◌, ◌++◌, ap, codes, decimal, dimmer_count}
use Rattle.cmd_cues.proofs.Items.{behind}
use Rattle.cmd_cues.proofs.json.push_universe.Goals as goal

pub returns : goal.returns
returns c =
    let old = c.args.text.now.items in
    let a : c.extend_from_slice.new.self.items ≡ old ++ codes "{\"universe\":" =
    c.in_ok-extend_from_slice.ensures.items in
    let b : c.extend_from_slice-2.new.self.items
    ≡ c.push_number.new.out.items ++ codes ",\"dimmers\":" =
    c.in_ok-extend_from_slice-2.ensures.items in
    let d : c.push_number-2.new.out.items
    ≡ c.extend_from_slice-2.new.self.items
    ++ decimal (dimmer_count c.args.show.now.patch c.args.ordinal) =
    c.in_ok-push_number-2.ensures
    ∙ ap (λ n. c.extend_from_slice-2.new.self.items ++ decimal n) c.dimmer_count.ensures in
    let universe : c.push_number.new.out.items
    ≡ c.extend_from_slice.new.self.items ++ decimal (c.args.ordinal + 1) =
    c.in_ok-push_number.ensures
    ∙ ap (λ n. c.extend_from_slice.new.self.items ++ decimal (n + 1)) c.from.ensures in
    behind old _ _ _ _ (behind old _ _ _ _ (behind old _ _ _ _ (behind old _ _ _ _ a universe) b) d)
    c.in_ok-push.ensures.items
