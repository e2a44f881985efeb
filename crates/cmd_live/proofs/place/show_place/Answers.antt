use Rattle.std.proofs.Common.{◌≡◌, ◌∙◌, ap}
use Rattle.show_core.specs.Tables.{Tables}
use Rattle.show_core.specs.Readers.{cue_above}
use Rattle.playback_core.specs.Played.{go_target}
use Rattle.desk_core.specs.Played.{settings}
use Rattle.console.specs.WhereLine.{where_line}
use Rattle.cmd_live.specs.Shown.{shown_place}
use Rattle.cmd_live.proofs.Texts.{shown_by}
use Rattle.cmd_live.proofs.place.show_place.Goals as goal

pub returns-clause-shows : goal.returns-clause-shows
returns-clause-shows g c = λ p history stands tells.
    let current = c.current-current.result in
    let next : c.next-next.result ≡ go_target p.show.cues current =
    c.next-next.ensures
    ∙ ap (λ (s : Tables). cue_above s.cues c.unwrap_or.result) (c.show.ensures p history stands)
    ∙ ap (cue_above p.show.cues) c.unwrap_or.ensures in
    let is : c.as_bytes.result.now ≡ shown_place p.show history c.args.moment =
    c.as_bytes.ensures.value ∙ c.as_str.ensures.value
    ∙ c.where_line-line.ensures (settings history) (c.masters.ensures p history stands)
    ∙ ap (λ n. where_line c.args.moment current n (settings history)) next
    ∙ ap (λ n. where_line c.args.moment n (go_target p.show.cues n) (settings history))
    (c.current-current.ensures p history stands) in
    rw (← is) (shown_by c.show-2.result _ _ _ _ _ c.show-2.ensures.ok c.show-2.ensures.err tells)
