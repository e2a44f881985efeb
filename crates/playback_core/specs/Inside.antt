-- What holds of the fields of every playback.
use Rattle.std.specs.Prelude.{◌≡◌, ◌≤◌, ℕ, Option}
use Rattle.std.specs.Option.{ForSome}

-- the fader has a level for each channel, and is not ahead of the move that is due
pub record IsPlayback (channels latest : ℕ) (due : Option ℕ) : Type 0 where
  pub each_channel : channels ≡ 4096
  pub not_ahead : ForSome due (λ moment. latest ≤ moment)
