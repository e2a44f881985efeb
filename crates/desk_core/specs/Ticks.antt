-- What a tick before End finds kept.
-- Of use inside the crate: what its public calls answer is said without these.
use Rattle.std.specs.Prelude.{◌≡◌, ◌≤◌, ℕ, Bool, IsTrue, IsFalse, List, Contains}
use Rattle.show_core.specs.Numbers.{is_channel}
use Rattle.show_core.specs.Tables.{Tables}
use Rattle.fade_core.specs.Level.{Start}
use Rattle.playback_core.specs.Played.{Move, is_by, playback_level}
use Rattle.playback_core.specs.Stands as playback
use Rattle.desk_core.specs.DeskState.{DeskState}

-- up to a moment, what is kept is what the show means at each channel but these: no cue follows by
-- itself, and each other channel has the level of the fader's latest moment
pub record IsKeptBut {F : Type 0} (fader_stands_for : F → List Start → Type 0) (latest : F → ℕ)
    (desk : DeskState F) (moment : ℕ) (channels : List ℕ) : Type 0 where
  pub kept : IsTrue desk.is_kept
  pub none_due : IsFalse (is_by desk.playback.due moment)
  pub others : playback.OfEach fader_stands_for desk.playback (λ show moves stopped.
      (channel later : ℕ) → IsTrue (is_channel channel) → ¬ Contains channels channel
      → latest desk.playback.fader ≤ later
      → playback_level show moves channel later
      ≡ playback_level show moves channel (latest desk.playback.fader))
