use Rattle.std.proofs.Common.{◌≡◌, ◌++◌, ap, ◌∙◌, take}
use Rattle.night_record.specs.Coming.{unseen_bytes}
use Rattle.night_record.proofs.Parting.{front_more_at}
use Rattle.night_record.proofs.lines.NightLines.rest.Goals as goal

pub returns : goal.returns
returns c =
    let unseen = unseen_bytes c.args.self.now in
    let line = c.args.self.now.line.items in
    let begun : c.keep_front.new.kept.items ≡ take 4096 line
    = c.keep_front.ensures ∙ (ap (λ l. take 4096 (l ++ c.as_slice.result.now)) c.new-rest.ensures
    ∙ ap (λ l. take 4096 l) c.as_slice.ensures.value) in
    c.keep_front-2.ensures ∙ (ap (λ l. take 4096 (l ++ unseen)) begun
    ∙ front_more_at 4096 line unseen)
