-- What a cue has: the levels that it lists, and the times that were set.
use Rattle.std.specs.Prelude.{ℕ, IsTrue, Option, Some, None, IfSome}
use Rattle.std.specs.FinMap as map
use Rattle.show_core.specs.declared.cue.CueData.{CueData}
use Rattle.show_core.specs.declared.cue.CueTime.{CueTime}
use Rattle.show_core.specs.declared.cue.CueTime.TheVariants.{Up, Down, Follow}
use Rattle.show_core.specs.declared.rate.Rate.{Rate}
use Rattle.show_core.specs.Numbers.{is_time}

-- a cue with nothing in it
abbrev pub blank : CueData
blank = record { levels = map.empty; up = None; down = None; follow = None }

-- ---- times

-- the times that a cue can have
pub data TimeName : Type 0 where
  UpTime : TimeName  -- the rate of rising levels
  DownTime : TimeName  -- the rate of falling levels
  FollowTime : TimeName  -- after which the next cue goes, in milliseconds

-- what a time of this name is
abbrev pub TimeOf : TimeName → Type 0
TimeOf UpTime = Rate
TimeOf DownTime = Rate
TimeOf FollowTime = ℕ

-- the time, where it has this name
abbrev pub time_named : CueTime → (name : TimeName) → Option (TimeOf name)
time_named (Up rate) UpTime = Some rate
time_named (Down rate) DownTime = Some rate
time_named (Follow time) FollowTime = Some time
time_named _ _ = None

-- the time of this name that was set last, where one was
abbrev pub time_in : CueData → (name : TimeName) → Option (TimeOf name)
time_in cue UpTime = cue.up
time_in cue DownTime = cue.down
time_in cue FollowTime = cue.follow

-- the cue with a time set
abbrev pub cue_with_time : CueData → CueTime → CueData
cue_with_time cue (Up rate) = record cue { up = Some rate }
cue_with_time cue (Down rate) = record cue { down = Some rate }
cue_with_time cue (Follow time) = record cue { follow = Some time }

-- ---- ranges

-- a rate's time and delay are in their range
abbrev pub IsRateInRange : Rate → Type 0
IsRateInRange rate = IsTrue (is_time rate.time) × IsTrue (is_time rate.delay)

-- a time of a cue is in its range
abbrev pub IsTimeInRange : CueTime → Type 0
IsTimeInRange (Up rate) = IsRateInRange rate
IsTimeInRange (Down rate) = IsRateInRange rate
IsTimeInRange (Follow time) = IsTrue (is_time time)

-- each time that a cue has set is in its range
pub record HasTimes (cue : CueData) : Type 0 where
  pub up_in : IfSome cue.up IsRateInRange
  pub down_in : IfSome cue.down IsRateInRange
  pub follow_in : IfSome cue.follow (λ time. IsTrue (is_time time))
