-- Where a live night is recorded, and where it is.
use Rattle.std.specs.Prelude.{◌≡◌, ℕ, Bool, List, Option, Some, None, option_map}
use Rattle.console.specs.Streams.{Production}
use Rattle.live_input.specs.Night.{Happening, now}
use Rattle.cmd_live.specs.Night.{history_at}
use Rattle.desk_core.specs.Played.{moves}
use Rattle.playback_core.specs.Played.{current_after}
use Rattle.night_lines.specs.declared.place.Place.{Place}
use Rattle.night_lines.specs.declared.record.Recording.{Recording}
use Rattle.night_opening.specs.declared.playbill.LiveWords.{LiveWords}

-- in the file that the words name, if any, where a night may go on or not, from this place, with a
-- last line that was cut or not
abbrev pub IsRecording : LiveWords → Bool → Option Place → Bool → Option Recording → Type 0
IsRecording words resumes place is_cut None = option_map (λ file. file.now) words.record_file ≡ None
IsRecording words resumes place is_cut (Some recording) =
    (option_map (λ file. file.now) words.record_file ≡ Some recording.file.now)
    × (recording.resumes ≡ resumes) × (recording.place ≡ place) × (recording.is_cut ≡ is_cut)

-- at the moment of its last line, in the cue of its latest move
abbrev pub IsPlaceIn : Production → List Happening → Place → Type 0
IsPlaceIn p happened place = (place.moment ≡ now happened)
    × (place.cue ≡ current_after (moves p.show (history_at p.show happened)))
