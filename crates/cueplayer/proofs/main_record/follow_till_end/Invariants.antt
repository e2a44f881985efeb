use Rattle.cmd_live.specs.Beginning.{CanFollow}
use Rattle.cueplayer.proofs.main_record.follow_till_end.Given as goal

-- the night can follow on
abbrev pub invariant-loop-turn : goal.invariant-loop-turn
invariant-loop-turn g l = CanFollow g.F.Fader.stands_for l.night
