-- A night that has followed a main can follow on.
use Rattle.std.proofs.Common.{◌≡◌, ◌++◌, Bool, List, Option, None, Some}
use Rattle.std.specs.Prelude.{OnSome}
use Rattle.devices.specs.Send.{Send}
use Rattle.fade_core.specs.Level.{Start}
use Rattle.live_machine.specs.declared.follow_end.FollowEnd.{FollowEnd}
use Rattle.cmd_live.specs.Beginning.{CanFollow, HasTakenUp}
use Rattle.cmd_live.specs.Following.{Follows, HasFollowed, end_of_pause}
use Rattle.cmd_live.specs.declared.follow.Pause.{Pause}
use Rattle.cmd_live.specs.declared.follow.Pause.TheVariants.{Asked, Ended, Other}
use Rattle.cmd_live.specs.declared.main_console.Led.{Led}
use Rattle.cmd_live.specs.declared.night.Night.{Night}

on_some : {A : Type 0} (end : Option A) {P : Type 0} → P → OnSome end P
on_some None p = tt
on_some (Some end) p = p

module _ {F : Type 0} (stands_for : F → List Start → Type 0) (tells : Type 0) (old new : Night F)
    (given gives : List Led) (before after : List Send)
    (can : CanFollow stands_for old)
  where
    behind : (pause : Pause) → Follows stands_for tells pause old new given gives before after
        → CanFollow stands_for new
    behind pause follows =
        let p = can.1.0 in
        let taken = can.1.1 in
        let now : HasTakenUp stands_for p new = record {
          lines = follows.lines ++ taken.lines;
          stands = follows.takes.stands p taken.lines taken.stands;
          are_recalled = follows.takes.are_recalled p taken.lines taken.stands taken.are_recalled;
        } in
        (follows.takes.ready, (p, now))

    pub follows_on : (pause : Pause) (is_over : Bool) (end : Option FollowEnd)
        → end ≡ end_of_pause pause is_over
        → HasFollowed stands_for tells pause old new given gives before after
        → OnSome end (CanFollow stands_for new)
    follows_on Asked is_over end is follows = on_some end (behind Asked follows)
    follows_on Ended is_over end is follows = on_some end (behind Ended follows)
    follows_on Other is_over end is follows = rw is tt
