use Rattle.std.proofs.Common.{arith, ◌++◌, ◌∙◌, refl, ap, sym, List, [], ◌∷◌}
use Rattle.live_input.specs.Night.{Happening, answer_to, answers, asked, ignored_keys, lines_given}
use Rattle.live_input.specs.Night.{stage, stage_by}
use Rattle.live_input.specs.Stands as live
use Rattle.live_input.proofs.Nights.{over_is}
use Rattle.cmd_live.specs.Booth.{refused, waits_until}
use Rattle.cmd_live.specs.Night.{trace_of}
use Rattle.cmd_live.proofs.Living.{Gives, breaks_more, breaks_none, carried_since, gives}
use Rattle.cmd_live.proofs.Living.{goes_more, goes_quietly, goes_waiting, helps, lives_more, on_err}
use Rattle.cmd_live.proofs.Living.{overs, places, refuses, shows_since, then_tells, then_waits}
use Rattle.cmd_live.proofs.Living.{waits, with_keys}
use Rattle.cmd_live.proofs.Texts.{shown_by, shows_none}
use Rattle.cmd_live.proofs.night.Night.go_on.Goals as goal

pub returns-in_err-moment-clause-broke : goal.returns-in_err-moment-clause-broke
returns-in_err-moment-clause-broke g c = on_err _ (breaks_none g.F.Fader.stands_for
    (g.B.Booth.tells c.moment.new.self × g.L.Link.tells c.args.link.now) _ _ _ _
    (λ tells. c.in_err-moment.ensures.err tells.0))

pub carry_out-lost-requires-clause-spelled : goal.carry_out-lost-requires-clause-spelled
carry_out-lost-requires-clause-spelled g c =
    let real = c.requires.real in
    let given = gives c.in-Line.given (answer_to real.1 c.in_ok-moment.moment)
    (c.in-Line.ensures.tells real.1 real.2.input_stands) in
    (given.line, given.is_given)

pub returns-in-Line-clause-goes : goal.returns-in-Line-clause-goes
returns-in-Line-clause-goes g c =
    let moment = c.in_ok-moment.moment in
    let giving : (happened : List Happening) → live.StandsFor c.args.self.now.input happened
    → Gives (answer_to happened moment) c.in-Line.given =
    λ happened stands. gives c.in-Line.given (answer_to happened moment)
    (c.in-Line.ensures.tells happened stands) in (
      record {
        since = asked moment ∷ [];
        stands = λ p happened stands.
            let given = giving happened stands.input_stands in
            record {
              console_stands = rw (given.lines_are (lines_given (answers happened)))
                  (c.carry_out-lost.ensures.stands given.line given.is_given p _
                  stands.console_stands);
              input_stands = c.next.ensures.stands happened stands.input_stands;
            };
        lived = λ tells p first earlier start stands lives.
            let happened = earlier ++ first in
            let given = giving happened stands.input_stands in
            let carried = c.tell_keys.ensures.told_booth tells.0 in
            let did = c.carry_out-lost.ensures.carried_out given.line given.is_given p _
            stands.console_stands carried tells.1 in
            let told = c.tell_keys.ensures.tells (asked moment ∷ happened)
            (c.next.ensures.stands happened stands.input_stands) tells.0 in
            lives_more p first earlier moment start _ _ lives c.in-Line.given given
            c.carry_out-lost.result c.saturating_add-self.result did.offers did.sends
            did.are_offered
            (rw (given.told_is (answers happened)) (with_keys moment _ _ _ _
            (carried_since p _ moment _ _ _ _ _
            (c.in_ok-moment.ensures.ok (c.carry_out-lost.ensures.told_booth carried)) did) told))
            did.lost_is c.saturating_add-self.ensures;
      },
      omega arith,
    )

pub returns-in-Where-clause-goes : goal.returns-in-Where-clause-goes
returns-in-Where-clause-goes g c =
    let moment = c.in_ok-moment.moment in
    goes_quietly g.F.Fader.stands_for _ _ _ moment _ _ refl refl c.next.ensures.stands
    (λ happened stands. places c.in-Where.moment (answer_to happened moment)
    (c.in-Where.ensures.tells happened stands))
    (λ tells p happened stands.
    let shown = c.tell_keys-in-Where.ensures.told_booth tells.0 in
    with_keys moment (ignored_keys (answers (asked moment ∷ happened))) _ _ _
    (shows_since moment _ _ _ _ (c.in_ok-moment.ensures.ok (c.show_place.ensures.told shown))
    (c.show_place.ensures.shows p _ stands.console_stands shown))
    (c.tell_keys-in-Where.ensures.tells (asked moment ∷ happened)
    (c.next.ensures.stands happened stands.input_stands) tells.0))

pub returns-in-Help-clause-goes : goal.returns-in-Help-clause-goes
returns-in-Help-clause-goes g c =
    let moment = c.in_ok-moment.moment in
    goes_quietly g.F.Fader.stands_for _ _ _ moment _ _ refl refl c.next.ensures.stands
    (λ happened stands. helps (answer_to happened moment)
    (c.in-Help.ensures.tells happened stands))
    (λ tells p happened stands.
    let shown = c.tell_keys-in-Help.ensures.told_booth tells.0 in
    with_keys moment (ignored_keys (answers (asked moment ∷ happened))) _ _ _
    (shows_since moment _ _ _ _ (c.in_ok-moment.ensures.ok (c.show.ensures.told shown))
    (rw (← c.help_text.ensures, ← c.as_bytes.ensures.value)
    (shown_by c.show.result _ _ _ _ _ c.show.ensures.ok c.show.ensures.err shown)))
    (c.tell_keys-in-Help.ensures.tells (asked moment ∷ happened)
    (c.next.ensures.stands happened stands.input_stands) tells.0))

pub returns-in-Refused-clause-goes : goal.returns-in-Refused-clause-goes
returns-in-Refused-clause-goes g c =
    let moment = c.in_ok-moment.moment in
    goes_quietly g.F.Fader.stands_for _ _ _ moment _ _ refl refl c.next.ensures.stands
    (λ happened stands. refuses c.in-Refused.text c.in-Refused.why (answer_to happened moment)
    (c.in-Refused.ensures.tells happened stands))
    (λ tells p happened stands.
    then_tells moment (refused c.in-Refused.text.items c.in-Refused.why) _ _ _
    (shows_since moment _ _ _ (g.L.Link.offered c.args.link.now)
    (c.in_ok-moment.ensures.ok (c.refuse.ensures.told tells.0)) (shows_none _ _))
    (rw c.as_slice.ensures.value at (c.refuse.ensures.refused tells.0)))

pub returns-in-Over-clause-goes : goal.returns-in-Over-clause-goes
returns-in-Over-clause-goes g c =
    let moment = c.in_ok-moment.moment in
    goes_quietly g.F.Fader.stands_for _ _ _ moment _ _ refl refl c.next.ensures.stands
    (λ happened stands. (overs (answer_to happened moment)
    (c.in-Over.ensures.tells happened stands)).1)
    (λ tells p happened stands. shows_since moment _ _ _ _ (c.in_ok-moment.ensures.ok tells.0)
    (shows_none _ _))

pub returns-in-Over-clause-over : goal.returns-in-Over-clause-over
returns-in-Over-clause-over g c = λ e p happened stands.
    let real = c.requires.real in
    let moment = c.in_ok-moment.moment in
    let first = real.1 in
    let before = real.2.input_stands in
    let over = (overs (answer_to first moment) (c.in-Over.ensures.tells first before)).0 in
    let here = (over_is first moment).0 over in
    let next = (c.next.ensures.stands first before).leaves.stage_is in
    let stays = ap (λ a. stage_by a (stage (answers first))) over in
    rw (sym (stands.input_stands.leaves.stage_is) ∙ next ∙ stays ∙ here) refl

pub returns-in_ok-wait-in-Until-clause-goes : goal.returns-in_ok-wait-in-Until-clause-goes
returns-in_ok-wait-in-Until-clause-goes g c =
    let moment = c.in_ok-moment.moment in
    let waited = c.in_ok-wait-in-Until.ensures in
    let night = record c.args.self.now { input = c.next.new.self } in
    let middle = trace_of (waits_until c.in-Until.due (g.B.Booth.state c.moment.new.self))
    (g.L.Link.offered c.args.link.now) in
    let quiet = goes_quietly g.F.Fader.stands_for (g.B.Booth.tells c.moment.new.self) _ night moment
    _ middle refl refl c.next.ensures.stands
    (λ happened stands. waits c.in-Until.due (answer_to happened moment)
    (c.in-Until.ensures.tells happened stands))
    (λ tells p happened stands. then_waits moment c.in-Until.due _ _ _ _
    (shows_since moment _ _ _ _ (c.in_ok-moment.ensures.ok tells) (shows_none _ _))) in
    let all = goes_more g.F.Fader.stands_for _ _ _ night _ _ middle _ quiet.0
    (goes_waiting g.F.Fader.stands_for _ _ night _ middle _ waited.console waited.lost
    waited.stands (λ tells. tells.0) refl) (λ tells. waited.told_booth tells.0) in
    (all.0, omega (arith, all.1, quiet.1))

pub returns-in_err-wait-in-Until-clause-broke : goal.returns-in_err-wait-in-Until-clause-broke
returns-in_err-wait-in-Until-clause-broke g c =
    let moment = c.in_ok-moment.moment in
    let waited = c.in_err-wait-in-Until.ensures in
    let night = record c.args.self.now { input = c.next.new.self } in
    let quiet = goes_quietly g.F.Fader.stands_for (g.B.Booth.tells c.moment.new.self) _ night moment
    _ (trace_of (waits_until c.in-Until.due (g.B.Booth.state c.moment.new.self))
    (g.L.Link.offered c.args.link.now)) refl refl
    c.next.ensures.stands
    (λ happened stands. waits c.in-Until.due (answer_to happened moment)
    (c.in-Until.ensures.tells happened stands))
    (λ tells p happened stands. then_waits moment c.in-Until.due _ _ _ _
    (shows_since moment _ _ _ _ (c.in_ok-moment.ensures.ok tells) (shows_none _ _))) in
    rw waited.unchanged (on_err _ (breaks_more g.F.Fader.stands_for _ _ _ night night _ _ _ quiet.0
    (breaks_none g.F.Fader.stands_for
    (g.B.Booth.tells c.wait.new.booth × g.L.Link.tells c.args.link.now) night _ _ _
    (λ tells. waited.broke tells.0)) (λ tells. waited.told_booth tells.0)))
