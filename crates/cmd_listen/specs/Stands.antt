-- What the code keeps, against what is known. Of use inside the crate.
use Rattle.std.specs.Prelude.{◌≡◌, ◌≤◌, ℕ}
use Rattle.std.specs.List.{AllZip}
use Rattle.sacn_receiver.specs.Kept.{StandsFor}
use Rattle.sacn_receiver.specs.Source.{last_moment}
use Rattle.cmd_listen.specs.declared.monitor.Monitor.{Monitor}
use Rattle.cmd_listen.specs.declared.watching.Watching.{Watching}
use Rattle.cmd_listen.specs.Universe.{Knowledge}
use Rattle.cmd_listen.specs.Watching.{WatchState}

-- a monitor stands for what is known of its universe, up to moment t
pub record MonitorStands (t : ℕ) (monitor : Monitor) (known : Knowledge) : Type 0 where
  pub receiver_stands : StandsFor monitor.receiver known.heard
  pub receiver_is : monitor.receiver.universe ≡ known.universe
  pub universe_is : monitor.universe ≡ known.universe
  pub sources_are : monitor.sources.items ≡ known.sources
  pub counts_are : monitor.counts ≡ known.counts
  pub slots_are : monitor.slots ≡ known.slots
  pub late : last_moment known.heard ≤ t

-- and each of the watched universes
pub record MonitorsStand (watching : Watching) (w : WatchState) : Type 0 where
  pub moment_is : watching.moment ≡ w.moment
  pub strays_are : watching.strays ≡ w.strays
  pub each : AllZip (MonitorStands w.moment) watching.monitors.items w.universes
