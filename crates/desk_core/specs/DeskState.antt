-- What a desk keeps.
use Rattle.std.specs.Prelude.{ℕ, Bool, List, Option}
use Rattle.show_core.specs.Tables.{Tables}
use Rattle.playback_core.specs.Playing.{PlaybackState}
use Rattle.master_core.specs.Settings.{Bytes}

-- the show and the number of the universe of ordinal 0; the playback and the masters; the moments
-- of the last call and of the last tick; the ticks since End, where there was one; the level that
-- submasters and groups make of each channel, and whether it is theirs now; the frame of each
-- ordinal, as the last tick left it; and whether these are what the show means now, too
pub record DeskState (F : Type 0) : Type 0 where
  pub show : Tables
  pub base : ℕ
  pub playback : PlaybackState F
  pub masters : Bytes
  pub last_moment : ℕ
  pub last_tick : Option ℕ
  pub ended : Option ℕ
  pub floors : List ℕ
  pub are_floors : Bool
  pub frames : List (List ℕ)
  pub is_kept : Bool
