-- What a show means at a tick: the frames of its universes, under the calls before it.
use Rattle.std.specs.Prelude.{ℕ, ◌+◌, List, [], ◌∷◌, is_some, map, replicate, if◌then◌else◌}
use Rattle.show_core.specs.Readers.{patch_ordinals}
use Rattle.show_core.specs.Tables.{PatchMap, Tables}
use Rattle.playback_core.specs.Played.{playback_level, with_due}
use Rattle.master_core.specs.Settings.{grand_after}
use Rattle.master_core.specs.Merged.{merged_after}
use Rattle.patch_core.specs.Frame.{frame_of}
use Rattle.desk_core.specs.Played.{Call, order, tick, Act, ticks_since_end, moves, settings}

-- every slot at 0
abbrev pub dark : List ℕ
dark = replicate 512 0

-- the level of a channel at a moment after a history: the highest of playback, with the moves due
-- by that moment, submasters and groups
abbrev pub channel_level : Tables → List Act → ℕ → ℕ → ℕ
channel_level show history moment channel =
    merged_after show (settings history) channel
    (playback_level show (with_due show moment (moves show history)) channel moment)

-- the frame of an ordinal at a tick of this moment after a history: what the patch and the grand
-- master make of the levels; dark after End (E1.31, Options: what a packet with Stream_Terminated
-- carries is ignored)
unfoldable pub frame : Tables → List Act → ℕ → ℕ → List ℕ
frame show history moment ordinal =
    if is_some (ticks_since_end history) then dark
    else frame_of show.patch (channel_level show history moment) (grand_after (settings history))
    ordinal

-- the frame of an ordinal after a history: that of the latest tick, under the calls before it; dark
-- before the first tick
abbrev pub latest_frame : Tables → List Act → ℕ → List ℕ
latest_frame show [] ordinal = dark
latest_frame show (act ∷ older) ordinal =
    shown_by act.call (frame show older act.moment ordinal) (latest_frame show older ordinal) where
      shown_by : Call → List ℕ → List ℕ → List ℕ
      shown_by tick new before = new
      shown_by (order instruction) new before = before

-- the numbers of the universes (E1.31, Universe) that have a patched dimmer: the base plus the
-- ordinal
unfoldable pub universe_numbers : PatchMap → ℕ → List ℕ
universe_numbers patch base = map (λ ordinal. base + ordinal) (patch_ordinals patch)
