use Rattle.cmd_live.proofs.FollowingOn.{follows_on}
use Rattle.cmd_live.proofs.night.Night.follow_main.Goals as goal

pub returns-clause-on : goal.returns-clause-on
returns-clause-on g c = follows_on _ _ _ _ _ _ _ _ c.requires _ _ _ c.follow_end.ensures
    c.follow-pause.ensures.follows

pub returns-clause-follows : goal.returns-clause-follows
returns-clause-follows g c = record {
  pause = c.follow-pause.result;
  is_over_now = c.is_over.result;
  end_is = c.follow_end.ensures;
  over = λ p happened stands. c.is_over.ensures happened stands.input_stands;
  follows = c.follow-pause.ensures.follows;
}
