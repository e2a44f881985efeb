-- A time that is set is the cue's time of its name, and its other times stay as they are.
use Rattle.show_core.proofs.Terms.{◌≡◌, refl, arith, None, option_or, CueData, CueTime, TimeName}
use Rattle.show_core.proofs.Terms.{time_named, time_in, LevelMap, blank, cue_with_time, IsTimeInRange}
use Rattle.show_core.proofs.Terms.{HasTimes}
use Rattle.show_core.specs.declared.cue.CueTime.TheVariants.{Up, Down, Follow}
use Rattle.show_core.specs.Cues.{UpTime, DownTime, FollowTime}

pub time_set : (cue : CueData) (time : CueTime) (name : TimeName)
    → time_in (cue_with_time cue time) name ≡ option_or (time_named time name) (time_in cue name)
time_set cue (Up rate) UpTime = refl
time_set cue (Down rate) DownTime = refl
time_set cue (Follow time) FollowTime = refl
time_set cue time name = refl

pub no_time : (name : TimeName) → time_in blank name ≡ None
no_time UpTime = refl
no_time DownTime = refl
no_time FollowTime = refl

pub levels_stay : (cue : CueData) (time : CueTime)
    → (cue_with_time cue time).levels ≡ cue.levels
levels_stay cue time = grind arith

-- cues with the same levels and times are one
pub same_cue : (a b : CueData) → a.levels ≡ b.levels
    → ((name : TimeName) → time_in a name ≡ time_in b name) → a ≡ b
same_cue a b levels times =
    grind (arith, levels, times UpTime, times DownTime, times FollowTime)

-- a cue keeps its times in their ranges
pub no_times : HasTimes blank
no_times = record { up_in = tt; down_in = tt; follow_in = tt }

pub times_stay : (cue : CueData) (levels : LevelMap) → HasTimes cue
    → HasTimes (record cue { levels = levels })
times_stay cue levels has =
    record { up_in = has.up_in; down_in = has.down_in; follow_in = has.follow_in }

pub times_kept : (cue : CueData) (time : CueTime) → HasTimes cue → IsTimeInRange time
    → HasTimes (cue_with_time cue time)
times_kept cue (Up rate) has fits =
    record { up_in = fits; down_in = has.down_in; follow_in = has.follow_in }
times_kept cue (Down rate) has fits =
    record { up_in = has.up_in; down_in = fits; follow_in = has.follow_in }
times_kept cue (Follow time) has fits =
    record { up_in = has.up_in; down_in = has.down_in; follow_in = fits }
