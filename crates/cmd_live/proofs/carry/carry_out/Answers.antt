use Rattle.std.proofs.Common.{◌∙◌, sym}
use Rattle.std.specs.Prelude.{is_some}
use Rattle.desk_core.specs.Played.{ticks_since_end, moves, own_time}
use Rattle.console.specs.Spelling.{act_of}
use Rattle.cmd_live.specs.Shown.{cue_lines}
use Rattle.cmd_live.specs.Stands.{ShowsText}
use Rattle.cmd_live.proofs.Carrying.{carried, newer, newer_is, none_newer}
use Rattle.cmd_live.proofs.Texts.{kept_by, shows_none}
use Rattle.cmd_live.proofs.carry.carry_out.Goals.{then-is_accepted, else-is_accepted}
use Rattle.cmd_live.proofs.carry.carry_out.Goals as goal

pub returns-clause-carried_out : goal.returns-clause-carried_out
returns-clause-carried_out g c = λ line given p history stands tells told_link.
    let moment = c.args.given.now.moment in
    let call = c.args.given.now.call in
    let answer = c.perform-performed.result.answer in
    let did = c.perform-performed.ensures.performed p history stands told_link in
    let text = c.as_slice.ensures.value ∙ given.text_is in
    let build = λ (told : g.B.Booth.tells c.show_answer.new.booth)
    (follows : ShowsText (g.L.Link.offered c.perform-performed.new.link)
    (g.B.Booth.state c.show_answer.new.booth) (g.B.Booth.state c.if-is_accepted.booth)
    (cue_lines (newer p history moment call answer did))).
    carried p history moment call answer did line _ _ _ _ _ given.spells
    (rw text at (kept_by c.keep.result _ _ _ _ _ c.keep.ensures.ok c.keep.ensures.err
    (c.show_answer.ensures.told told)))
    (c.show_answer.ensures.shows told) follows c.packets_lost.ensures.count in
    elim c.if-is_accepted.branch [
      | then-is_accepted w ↦
          let told = rw w.booth-is at tells in
          let show_is = w.show.ensures p _ (c.perform-performed.ensures.stands p history stands) in
          let shows = w.show_moves.ensures.shows (moves p.show history)
          (is_some (ticks_since_end history))
          (own_time (act_of moment call).call)
          (rw show_is (c.place-place.ensures p history stands)) told in
          build (w.show_moves.ensures.told told) (rw (
            newer_is p history moment call answer did _
                (c.perform-performed.ensures.current p history stands)
                (sym c.is_accepted.ensures ∙ w.if-is_accepted.true),
            w.booth-is,
          )
          (rw (show_is, w.own_move-own.ensures) at shows))
      | else-is_accepted w ↦
          let told = rw w.booth-is at tells in
          build told (rw (
            none_newer p history moment call answer did
                (sym c.is_accepted.ensures ∙ w.if-is_accepted.false),
            w.booth-is,
          ) (shows_none _ _))
    ]
