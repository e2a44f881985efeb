-- What is told at the start of a night, and in which order.
use Rattle.std.specs.Prelude.{ℕ, Bool, nat_eq, if◌then◌else◌, List, [], ◌∷◌, ◌++◌, map}
use Rattle.std.specs.Prelude.{Option, Some, None, option_map}
use Rattle.std.specs.Option.{is_some, option_to_list}
use Rattle.targets.specs.declared.target.Target.{Target}
use Rattle.night_lines.specs.Contents.{contents_line}
use Rattle.night_lines.specs.Records.{ending_line, main_line, no_record_line, record_line}
use Rattle.night_lines.specs.Records.{take_line}
use Rattle.night_lines.specs.Sends.{sends_line}
use Rattle.night_lines.specs.StartNetworks.{network_lines}
use Rattle.night_lines.specs.Targets.{sole_target, target_line}
use Rattle.night_lines.specs.declared.follow.MainNight.{MainNight}
use Rattle.night_lines.specs.declared.record.Recording.{Recording}
use Rattle.night_lines.specs.declared.sends.Transmission.{Transmission}
use Rattle.night_lines.specs.declared.start.NightStart.{NightStart}
use Rattle.night_lines.specs.declared.start.StartShow.{StartShow}

-- what a show has, and, where it has no cue, what its file seems to be if that is no text
abbrev pub show_lines : StartShow → List (List ℕ)
show_lines show =
    contents_line show.counts show.skipped show.notes
    ∷ (if nat_eq show.counts.cues 0
    then option_to_list (option_map (λ line. line.now) show.seeming) else [])

-- each target, unless there is only one, for all universes
abbrev pub target_lines : List Target → List (List ℕ)
target_lines targets = if is_some (sole_target targets) then [] else map target_line targets

-- what is sent, and each target
abbrev pub sends_lines : Transmission → List (List ℕ)
sends_lines sends = option_to_list (sends_line sends) ++ target_lines sends.targets.now

-- where a night is recorded, or that it is not
abbrev pub record_told : Option Recording → List ℕ
record_told (Some recording) = record_line recording
record_told None = no_record_line

-- the main that a night follows, and how the following ends; where it follows none, what ends it
abbrev pub closing_lines : Option MainNight → Bool → List (List ℕ)
closing_lines (Some main) is_interruptible = main_line main ∷ take_line ∷ []
closing_lines None is_interruptible = ending_line is_interruptible ∷ []

-- WHAT IS TOLD AT A NIGHT'S START: what the show has; what is sent, and where; how packets leave
-- this machine; where the night is recorded; and whom it follows, or what ends it
abbrev pub start_lines : NightStart → List (List ℕ)
start_lines start =
    show_lines start.show ++ sends_lines start.sends ++ network_lines start.network
    ++ record_told start.recording ∷ closing_lines start.main start.is_interruptible
